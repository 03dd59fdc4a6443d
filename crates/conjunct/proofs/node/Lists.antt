-- Lists of words: their order is that of their conjuncts, and different words are different nodes.
use mathlib.Core.List.{List, [], ◌∷◌}
use mathlib.Core.Path.{◌≡◌, refl, sym, ap₂, ◌∙◌}
use Prim.Native.Nat.{Ordering}
use Prim.Native.Nat.{ℕ, compare}
use lib.ListN.{length, length-map}
use Rattle.model.proofs.Conjuncts.Order.{nodes_self, compare_eq}
use Rattle.model.specs.Conjunct.{◌then◌, order_numbers, order_nodes, order}
use Rattle.conjunct.proofs.node.WordOrder.{then_none, word-order}
use Rattle.conjunct.specs.Word.{node_of, nodes_of_lem}

-- words one after the other
pub words-order : (vs ws : List ℕ) → order_nodes (nodes_of_lem vs) (nodes_of_lem ws) ≡ order_numbers vs ws
unfolding order_nodes order_numbers
words-order [] [] = refl
words-order [] (w ∷ ws) = refl
words-order (v ∷ vs) [] = refl
words-order (v ∷ vs) (w ∷ ws) = ap₂ ◌then◌ (word-order v w) (words-order vs ws)

-- conjuncts: by node count, then by words
pub conjunct-order : (vs ws : List ℕ) → order (nodes_of_lem vs) (nodes_of_lem ws) ≡ (compare (length vs) (length ws) then order_numbers vs ws)
unfolding order
conjunct-order vs ws = rw (words-order vs ws, length-map vs node_of, length-map ws node_of)

-- different words are different nodes
pub node-word : (v w : ℕ) → node_of v ≡ node_of w → v ≡ w
unfolding order_numbers
node-word v w e =
    let p : order_nodes (nodes_of_lem (v ∷ [])) (nodes_of_lem (w ∷ [])) ≡ Ordering.eq = rw e (nodes_self (node_of w ∷ [])) in
    compare_eq v w (sym (then_none (compare v w)) ∙ sym (words-order (v ∷ []) (w ∷ [])) ∙ p)

-- One site, in regions: the union so far in the first behind the table, the site's set in the next.
use mathlib.Core.List.{List, [], ◌∷◌}
use mathlib.Core.Logic.{inl, inr}
use mathlib.Core.Path.{◌≡◌, sym, ap, subst, ◌∙◌}
use Prim.Native.Nat.{ℕ, ◌≤◌, ◌<◌}
use native.Mathlib.Omega.{arith}
use lib.ListN.{length}
use Rattle.model.specs.Code.{site, done, step}
use Rattle.model.specs.Conjunct.{Conjuncts, Node, var}
use Rattle.model.specs.Refusals.{◌>>=◌}
use Rattle.model.specs.Walk.{here, sites}
use Rattle.model.specs.TidySets.{Tidy}
use Rattle.model.proofs.Walks.Tidied.{sites-tidy}
use Rattle.sets.specs.Region.{set_of, Within}
use Rattle.sets.proofs.Rows.{frame}
use Rattle.rules.specs.Answers.{Answer, answered, Below}
use Rattle.refusals.specs.declared.Refusal.{Refusal}
use Rattle.std.specs.Prelude.{Ok, Err}
use Rattle.enclosing.specs.Enclosing.{EnclosedIn, walked_out, WalksOut}
use Rattle.analysis.specs.Deriving.{union_at, site_at, analysis_words}
use Rattle.analysis.specs.Joining.{joined_to, Sited}
use Rattle.analysis.proofs.Uniting.{region-below}

-- a site begins with a tidy set
site-tidy : (x ty : ℕ) → Tidy ((var x ty ∷ []) ∷ [])
unfolding sites here
site-tidy x ty = (sites-tidy (step 0 (site x ty) done)).0

pub region-tidy : (x ty : ℕ) (v : Node) (t : List ℕ) → v ≡ var x ty → set_of t site_at ≡ (v ∷ []) ∷ [] → Tidy (set_of t site_at)
region-tidy x ty v t e only = subst Tidy (sym (only ∙ ap (λ z. (z ∷ []) ∷ []) e)) (site-tidy x ty)

module _ (k : List ℕ) (i x ty : ℕ) (v : Node) (s t u : List ℕ) (a : Answer)
    (fits : analysis_words ≤ length s) (node : v ≡ var x ty) (only : set_of t site_at ≡ (v ∷ []) ∷ [])
    (t_length : length t ≡ length s) (in-next : Within site_at s t) (u-length : length u ≡ length t) (below : Below site_at t u)
    (walks : (n : ℕ) → WalksOut k n i (set_of t site_at) a (set_of u site_at)) where
  pub union_stays : set_of u union_at ≡ set_of s union_at
  union_stays = region-below t u union_at site_at u-length (omega arith) (omega arith) below ∙ frame s t site_at union_at t_length (omega arith) (inr (omega arith)) in-next

  walked : (n q : ℕ) (w : EnclosedIn k n i q) → i < q → walked_out k n i q w ((var x ty ∷ []) ∷ []) ≡ answered a (set_of u site_at)
  walked n q w b = ap (walked_out k n i q w) (sym (only ∙ ap (λ z. (z ∷ []) ∷ []) node)) ∙ walks n q w b

  pub sited_refused : (c : Refusal) → a ≡ Err c → (Q : Conjuncts) (n : ℕ) → Sited k n i x ty (set_of s union_at) (Err c) Q
  sited_refused c e Q n q w b = ap (◌>>= joined_to (set_of s union_at)) (walked n q w b ∙ ap (λ z. answered z (set_of u site_at)) e)

  pub sited_done : a ≡ Ok tt → (d : Answer) (Q : Conjuncts) → joined_to (set_of u union_at) (set_of u site_at) ≡ answered d Q → (n : ℕ) → Sited k n i x ty (set_of s union_at) d Q
  sited_done e d Q h n q w b =
      ap (◌>>= joined_to (set_of s union_at)) (walked n q w b ∙ ap (λ z. answered z (set_of u site_at)) e) ∙ ap (λ R. joined_to R (set_of u site_at)) (sym union_stays) ∙ h

  -- nothing before the union has changed
  pub site-below : Below union_at s u
  site-below j h = below j (omega arith) ∙ in-next j (inl (omega arith))

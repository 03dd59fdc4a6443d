-- The bytes of a node in a file, as one number.
use mathlib.Core.List.{List, [], ◌∷◌}
use mathlib.Core.Path.{◌≡◌, sym, ap, ◌∙◌, subst}
use Prim.Native.Nat.{ℕ, ◌+◌, ◌*◌, ◌/◌, ◌%◌, ◌<◌, ◌≤◌}
use native.Mathlib.Omega.{arith}
use Rattle.model.specs.Conjunct.{bytes, source_bytes}
use Rattle.model.specs.Values.{add, sub, mul, div}
use Rattle.model.specs.Formed.{FileNode}
use Rattle.conjunct.proofs.node.Shapes.{Shape, number, reading, calc, change, variable, load, shape, is_number, is-reading}
use Rattle.conjunct.proofs.node.WordOrder.{digits4, bytes-low4, bytes-mid2}
use Rattle.conjunct.specs.Word.{node_of, file_bytes, first_reading, first_sum, place2, place3, place4, place5, place6, place7}

-- the four low bytes beside others
low-digits : (q l : ℕ) → digits4 (q * place4 + l) ≡ digits4 l
unfolding digits4
low-digits q l =
    let w = q * place4 + l in
    let a : w % 256 ≡ l % 256 = omega arith in
    let b : w / 256 ≡ q * place3 + l / 256 = omega arith in
    let c : w / place2 ≡ q * place2 + l / place2 = omega arith in
    let d : w / place3 ≡ q * 256 + l / place3 = omega arith in
    let e : (q * place3 + l / 256) % 256 ≡ l / 256 % 256 = omega arith in
    let f : (q * place2 + l / place2) % 256 ≡ l / place2 % 256 = omega arith in
    let g : (q * 256 + l / place3) % 256 ≡ l / place3 % 256 = omega arith in
    rw (a, b, c, d, e, f, g)

low_part : (w : ℕ) → digits4 (w % place4) ≡ digits4 w
low_part w =
    let e : w / place4 * place4 + w % place4 ≡ w = omega arith in
    sym (low-digits (w / place4) (w % place4)) ∙ ap digits4 e

-- kind, type, nothing, and four bytes
file-word : (k ty l : ℕ) → ty < 256 → l < place4 → file_bytes (k * place7 + ty * place6 + l) ≡ k ∷ ty ∷ 0 ∷ 0 ∷ digits4 l
unfolding file_bytes digits4
file-word k ty l h g =
    let w = k * place7 + ty * place6 + l in
    let low : digits4 w ≡ digits4 l =
    let e : w ≡ (k * place3 + ty * place2) * place4 + l = omega arith in ap digits4 e ∙ low-digits (k * place3 + ty * place2) l in
    let a : w / place7 ≡ k = omega arith in
    let b : w / place6 ≡ k * 256 + ty = omega arith in
    let c : w / place5 ≡ (k * 256 + ty) * 256 = omega arith in
    let d : w / place4 ≡ (k * 256 + ty) * place2 = omega arith in
    let f : (k * 256 + ty) % 256 ≡ ty = omega arith in
    let p : (k * 256 + ty) * 256 % 256 ≡ 0 = omega arith in
    let q : (k * 256 + ty) * place2 % 256 ≡ 0 = omega arith in
    ap (λ l. w / place7 ∷ w / place6 % 256 ∷ w / place5 % 256 ∷ w / place4 % 256 ∷ l) low ∙ rw (a, b, c, d, f, p, q)

-- a node that has no more than a type
bare-word : (k ty w : ℕ) → ty < 256 → w ≡ k * place7 + ty → file_bytes (w / place7 * place7 + w % 256 * place6) ≡ k ∷ ty ∷ 0 ∷ 0 ∷ 0 ∷ 0 ∷ 0 ∷ 0 ∷ []
unfolding digits4
bare-word k ty w h e =
    let a : w / place7 ≡ k = omega arith in
    let b : w % 256 ≡ ty = omega arith in
    let c : k * place7 + ty * place6 ≡ k * place7 + ty * place6 + 0 = omega arith in
    rw (a, b) (ap file_bytes c ∙ file-word k ty 0 h (omega arith))

module _ (types : List ℕ) (w : ℕ) (f : FileNode types (node_of w)) where
  pub filed_constant : w < first_reading → bytes (node_of w) ≡ file_bytes (w / place4 % 256 * place6 + w % place4)
  unfolding bytes
  filed_constant h =
      let g = subst (FileNode types) (is_number w h) f in
      let a : w / place4 % 256 ≡ w / place4 = omega (arith, g.0) in
      let b : w / place4 * place6 + w % place4 ≡ 0 * place7 + w / place4 * place6 + w % place4 = omega arith in
      rw (is_number w h, bytes-low4 w, a, b)
      (sym (file-word 0 (w / place4) (w % place4) (omega (arith, g.0)) (omega arith) ∙ ap (λ l. 0 ∷ w / place4 ∷ 0 ∷ 0 ∷ l) (low_part w)))

  pub filed_reading : first_reading ≤ w → w < first_sum → bytes (node_of w) ≡ file_bytes w
  unfolding bytes source_bytes file_bytes digits4
  filed_reading l h =
      let k : w / place7 ≡ 1 = omega arith in
      rw (is-reading w l h, bytes-mid2 w, bytes-low4 w, k)

  pub filed_rest : first_sum ≤ w → bytes (node_of w) ≡ file_bytes (w / place7 * place7 + w % 256 * place6)
  unfolding bytes
  filed_rest l = go (shape w)
    where
      one : (k : ℕ) → k * first_reading ≤ w → w < (k + 1) * place7 → w % place7 < 8
          → (k ∷ w % place7 ∷ 0 ∷ 0 ∷ 0 ∷ 0 ∷ 0 ∷ 0 ∷ []) ≡ file_bytes (w / place7 * place7 + w % 256 * place6)
      one k p q t = sym (bare-word k (w % place7) w (omega arith) (omega arith))

      go : Shape w → bytes (node_of w) ≡ file_bytes (w / place7 * place7 + w % 256 * place6)
      go (number p e) = absurd (omega arith)
      go (reading p q e) = absurd (omega arith)
      go (calc add p q e) = ap bytes e ∙ one 2 p q (subst (FileNode types) e f)
      go (calc sub p q e) = ap bytes e ∙ one 3 p q (subst (FileNode types) e f)
      go (calc mul p q e) = ap bytes e ∙ one 4 p q (subst (FileNode types) e f)
      go (calc div p q e) = ap bytes e ∙ one 5 p q (subst (FileNode types) e f)
      go (change p q e) = ap bytes e ∙ one 6 p q (subst (FileNode types) e f)
      go (variable p q e) = absurd (subst (FileNode types) e f)
      go (load p e) = absurd (subst (FileNode types) e f)

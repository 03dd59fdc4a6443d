-- The sites by rising label: each label is a site, or leaves what the sites come to as it was.
use mathlib.Core.Bool.{true, false, true≢false}
use mathlib.Core.List.{List, [], ◌∷◌, ◌++◌, map}
use mathlib.Core.Path.{◌≡◌, refl, sym, ap, subst, ◌∙◌}
use Prim.Native.Nat.{ℕ, suc, ◌+◌, ◌≤◌, ◌<◌}
use lib.ListN.{length}
use native.Mathlib.Numerals.{add-one}
use native.Mathlib.Omega.{arith}
use Rattle.model.specs.Code.{site, Code, Stmt, plain, if, else, end, while}
use Rattle.model.specs.Conjunct.{Conjuncts, union_of, long, limits, var}
use Rattle.model.specs.Kinds.{Kind, a_number, a_copy, an_operation, a_conversion, a_read, a_load, a_store, a_site, an_if, an_else, an_end, a_while, a_procedure, a_call, no_kind_lem, kind_of}
use Rattle.model.specs.Placement.{Laid}
use Rattle.model.specs.Sizes.{most_nested}
use Rattle.model.specs.Refusals.{Out, ok, refused, ◌>>=◌}
use Rattle.model.specs.Walk.{here, sites, start, join, derived}
use Rattle.model.specs.Nesting.{Nested}
use Rattle.model.specs.TidySets.{Tidy}
use Rattle.model.specs.Enclosing.{walk_out_lem, From}
use Rattle.model.proofs.Basics.Results.{bind_assoc}
use Rattle.model.proofs.Walks.Rising.{from_start, from_end, Next, statement, bare, from_next}
use Rattle.model.proofs.Files.KindNumbers.{IsNumber, kind-number}
use Rattle.code_table.specs.declared.Decoded.{Decoded}
use Rattle.code_table.specs.Statements.{stmt_for, stmt_from}
use Rattle.code_table.specs.Table.{table_of, row_in, stmt_in, mate_in, KnownBelow}
use Rattle.sets.specs.Region.{set_of}
use Rattle.walk.proofs.Regions.{below-table}
use Rattle.rules.specs.Answers.{Answer, answered, Below}
use Rattle.refusals.specs.Answers.{number_of}
use Rattle.refusals.specs.declared.Refusal.{Refusal}
use Rattle.std.specs.Prelude.{Ok, Err}
use Rattle.enclosing.specs.Enclosing.{walked_out, Enclosed}
use Rattle.analysis.proofs.Repeating.{repeated, joined-site, joined-other, site-row}
use Rattle.analysis.specs.Deriving.{union_at, analysis_words}
use Rattle.analysis.specs.Joining.{SitesFrom, Sited, Repeats, AllJoined, GoesOn, PassedLabel}

-- ---- which statements are sites

-- what a statement adds to the sites
abbrev begins : Stmt → List (Out Conjuncts)
begins (plain x) = here x
begins (if v) = []
begins else = []
begins end = []
begins (while v) = []

module _ (d : Decoded) where
  no_site : (d.kind ≡ 10 → ⊥) → begins (stmt_from d) ≡ []
  unfolding stmt_from here
  no_site other = go (kind_of d.kind) (kind-number d.kind)
    where
      go : (k : Kind) → IsNumber k d.kind → begins (stmt_for k d) ≡ []
      go a_number n = refl
      go a_copy n = refl
      go (an_operation o) n = refl
      go a_conversion n = refl
      go a_read n = refl
      go a_load n = refl
      go a_store n = refl
      go a_site n = absurd (other n)
      go an_if n = refl
      go an_else n = refl
      go an_end n = refl
      go a_while n = refl
      go a_procedure n = refl
      go a_call n = refl
      go no_kind_lem n = refl

-- a site adds something
some-site : (x ty : ℕ) → [] ≡ begins (plain (site x ty)) → ⊥
unfolding here
some-site x ty e = let z : true ≡ false = cc in true≢false z

-- ---- one label

regroup : (o : Out Conjuncts) (f g h : Conjuncts → Out Conjuncts) → (o >>= f >>= λ S. g S >>= h) ≡ (o >>= (λ S. f S >>= g) >>= h)
regroup (ok S) f g h = sym (bind_assoc (f S) g h)
regroup (refused k) f g h = refl

module _ (k : List ℕ) (n i : ℕ) where
  abbrev row : Decoded
  row = row_in k i

  next : i < n → (L : List (Out Conjuncts)) → SitesFrom k n i L → Next (stmt_in k) (mate_in k) n i L
  next b L f = from_next (stmt_in k) (mate_in k) n i L b f

  -- the label after it, as code has it
  onto : (M : List (Out Conjuncts)) → From (stmt_in k) (mate_in k) n (suc i) M → SitesFrom k n (i + 1) M
  onto M f = subst (λ z. SitesFrom k n z M) (sym (add-one i)) f

  module _ (b : i < n) (R : Conjuncts) where
    -- a site

    module _ (kind : row.kind ≡ 10) where
      pub site_leads : KnownBelow n k → (L : List (Out Conjuncts)) → SitesFrom k n i L → Enclosed k n i
      site_leads h L f = go (next b L f)
        where
          go : Next (stmt_in k) (mate_in k) n i L → Enclosed k n i
          go (statement x q w M p c e g) = record { known = h; end = q; blocks = w; inside = c }
          go (bare p g) = absurd (p (site row.a row.ty) (site-row row kind))

      pub pass_site : (a : Answer) (Q : Conjuncts) → Sited k n i row.a row.ty R a Q → PassedLabel k n i R a Q
      unfolding here join
      pass_site a Q h all L f = go (next b L f)
        where
          go : Next (stmt_in k) (mate_in k) n i L → GoesOn k n i R a Q L
          go (statement y q w M p c e g) =
              let same : here y ≡ here (site row.a row.ty) = ap begins (sym p ∙ site-row row kind) in
              let o = walked_out k n i q w ((var row.a row.ty ∷ []) ∷ []) in
              let first : L ≡ o ∷ M = e ∙ ap (λ os. map (◌>>= walk_out_lem (stmt_in k) (mate_in k) n w) os ++ M) same in
              record {
                later = M;
                sites = onto M g;
                same = ap (join R) first ∙ regroup o start (λ Z. limits (union_of R Z)) (λ U. join U M) ∙ ap (◌>>= λ U. join U M) (h q w c);
                joined = λ done. joined-site k n i R all Q row.a row.ty (site-row row kind) (subst (λ z. Sited k n i row.a row.ty R z Q) done h) q w c;
              }
          go (bare p g) = absurd (p (site row.a row.ty) (site-row row kind))

      -- one that repeats an earlier one, by its row as it was fetched
      pub pass_repeated : (d : Decoded) → d ≡ row → {j : ℕ} → Repeats k j i d.a d.ty → Tidy R → PassedLabel k n i R (Ok tt) R
      pass_repeated d e {j} r t all =
          let again = subst (λ (x : Decoded). Repeats k j i x.a x.ty) e r in
          pass_site (Ok tt) R (repeated k n i j row.a row.ty again R all t) all

    -- any other statement
    pub pass_other : (row.kind ≡ 10 → ⊥) → PassedLabel k n i R (Ok tt) R
    pass_other other all L f = go (next b L f)
      where
        joined : AllJoined k n (i + 1) R
        joined = joined-other k n i R all (λ x ty p. some-site x ty (sym (no_site row other) ∙ ap begins p))

        go : Next (stmt_in k) (mate_in k) n i L → GoesOn k n i R (Ok tt) R L
        go (statement x q w M p c e g) =
            let none : here x ≡ [] = ap begins (sym p) ∙ no_site row other in
            record {
              later = M;
              sites = onto M g;
              same = ap (join R) (e ∙ ap (λ o. map (◌>>= walk_out_lem (stmt_in k) (mate_in k) n w) o ++ M) none);
              joined = λ done. joined;
            }
        go (bare p g) = record { later = L; sites = onto L g; same = refl; joined = λ done. joined }

-- ---- all labels

pub empty-tidy : (R : Conjuncts) → R ≡ [] → Tidy R
unfolding long
empty-tidy R e = subst Tidy (sym e) (record { canon = tt; numbered = tt; fine = record { short = refl; few = omega arith } })

module _ (k : List ℕ) (n : ℕ) where
  -- what is left of the sites from the label i on, joined to the union R, is all that the analysis derives
  abbrev pub Left : ℕ → Conjuncts → Type 0
  Left i R = (c : Code) → Laid (stmt_in k) (mate_in k) c 0 n → Nested most_nested c → (L : List (Out Conjuncts)) × SitesFrom k n i L × (derived c ≡ join R L)

  pub left-all : (R : Conjuncts) → R ≡ [] → Left 0 R
  unfolding derived
  left-all R e c l d = (sites c, from_start (stmt_in k) (mate_in k) n c l d, ap (λ S. join S (sites c)) (sym e))

  pub left-none : (i : ℕ) → i ≡ n → (R : Conjuncts) → Left i R → (c : Code) → Laid (stmt_in k) (mate_in k) c 0 n → Nested most_nested c → derived c ≡ ok R
  unfolding join
  left-none i e R f c l d =
      let g = f c l d in
      let at-end = subst (λ z. SitesFrom k n z g.0) e g.1 in
      g.2 ∙ ap (join R) (from_end (stmt_in k) (mate_in k) n g.0 at-end)

  module _ (i : ℕ) (R Q : Conjuncts) (a : Answer) (f : Left i R) (all : AllJoined k n i R) (h : PassedLabel k n i R a Q) where
    pub left-refused : (m : Refusal) → a ≡ Err m → (c : Code) → Laid (stmt_in k) (mate_in k) c 0 n → Nested most_nested c → derived c ≡ refused (number_of m)
    left-refused m e c l d =
        let g = f c l d in
        let p = h all g.0 g.1 in
        g.2 ∙ p.same ∙ ap (λ x. answered x Q >>= λ U. join U p.later) e

    pub left-next : a ≡ Ok tt → Left (i + 1) Q
    left-next e c l d =
        let g = f c l d in
        let p = h all g.0 g.1 in
        (p.later, p.sites, g.2 ∙ p.same ∙ ap (λ x. answered x Q >>= λ U. join U p.later) e)

    pub all-next : a ≡ Ok tt → (c : Code) → Laid (stmt_in k) (mate_in k) c 0 n → Nested most_nested c → AllJoined k n (i + 1) Q
    all-next e c l d = let g = f c l d in (h all g.0 g.1).joined e

-- ---- the words

module _ (s₀ : List ℕ) (n : ℕ) where
  -- all labels before i are passed, from the words s₀ to s
  pub record Passed (s : List ℕ) (i : ℕ) : Type 0 where
    pub same_length : length s ≡ length s₀
    pub tidy : Tidy (set_of s union_at)
    pub table : table_of 0 s ≡ table_of 0 s₀
    pub left : Left (table_of 0 s₀) n i (set_of s union_at)
    pub all : AllJoined (table_of 0 s₀) n i (set_of s union_at)

  -- the label i is passed with the answer a, from s to t
  module _ (s : List ℕ) (i : ℕ) (g : Passed s i) (t : List ℕ) (a : Answer) (more : i < n)
      (does : (m : ℕ) → i < m → PassedLabel (table_of 0 s) m i (set_of s union_at) a (set_of t union_at)) where
    here-passed : PassedLabel (table_of 0 s₀) n i (set_of s union_at) a (set_of t union_at)
    here-passed = subst (λ k. PassedLabel k n i (set_of s union_at) a (set_of t union_at)) g.table (does n more)

    pub passed-refused : (m : Refusal) → a ≡ Err m → (c : Code) → Laid (stmt_in (table_of 0 s₀)) (mate_in (table_of 0 s₀)) c 0 n → Nested most_nested c
        → derived c ≡ refused (number_of m)
    passed-refused = left-refused (table_of 0 s₀) n i (set_of s union_at) (set_of t union_at) a g.left g.all here-passed

    pub passed-next : a ≡ Ok tt → analysis_words ≤ length s₀ → length t ≡ length s → Tidy (set_of t union_at) → Below union_at s t
        → (c : Code) → Laid (stmt_in (table_of 0 s₀)) (mate_in (table_of 0 s₀)) c 0 n → Nested most_nested c → Passed t (i + 1)
    passed-next e room same-t tidy below c l d = record {
      same_length = same-t ∙ g.same_length;
      tidy = tidy;
      table = below-table union_at s t (omega arith) (omega (arith, g.same_length)) same-t below ∙ g.table;
      left = left-next (table_of 0 s₀) n i (set_of s union_at) (set_of t union_at) a g.left g.all here-passed e;
      all = all-next (table_of 0 s₀) n i (set_of s union_at) (set_of t union_at) a g.left g.all here-passed e c l d;
    }

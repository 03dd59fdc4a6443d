-- The causes of document 02's card 2: what each says of a step, and that beside them nothing has moved.
use mathlib.Core.Path.{◌≡◌, refl, sym, subst}
use mathlib.Core.List.{List}
use mathlib.Core.Logic.{inl, inr}
use Prim.Native.Nat.{ℕ}
use Rattle.arith.specs.declared.Cause.{Cause}
use Rattle.arith.proofs.Causes.{cause-above, cause-below, cause_no_divisor}
use Rattle.model.specs.Refusals.{Out, ok, refused, mapped}
use Rattle.model.specs.Filter.{filter_input}
use Rattle.model.specs.Failure.{Found, answer_number, verdict}
use Rattle.model.specs.Demands.{ResultOrRefusal, FilterRefusal, Demand1, Causes}
use Rattle.model.proofs.Demand1.{demand1}
use Rattle.model.proofs.Basics.Results.{refused-ok}
use Rattle.model.proofs.Filters.Verdicts.{verdict_filter}

-- a verdict is given or refused as the filter's answer is
as_answered : (o : Out (Found Cause)) → ResultOrRefusal FilterRefusal (mapped answer_number o) → ResultOrRefusal FilterRefusal o
as_answered (ok a) h = inl (a, refl)
as_answered (refused n) (inl (a, e)) = absurd (refused-ok n a e)
as_answered (refused n) (inr (m, e, l)) = inr (m, cc, l)

pub causes : Causes
causes = record {
  above = cause-above;
  below = cause-below;
  no_divisor = cause_no_divisor;
  answered = λ condition input. as_answered (verdict condition input) (subst (ResultOrRefusal FilterRefusal) (sym (verdict_filter condition input)) (demand1.filtered condition input));
  unmoved = verdict_filter;
}

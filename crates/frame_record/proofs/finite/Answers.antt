-- `frame_record::finite` meets its contract, by cases. Assumes nothing.
use mathlib.Core.Path.{◌≡◌, refl, ◌∙◌}
use lib.Ieee.{Float, nan, inf, fin}
use Rattle.std.specs.Float.{float_is_finite}
use Rattle.frame_record.specs.Finite.{finite?}
use Rattle.frame_record.proofs.finite.Goals as goal

same : (x : Float) → float_is_finite x ≡ finite? x
unfolding float_is_finite
same nan = refl
same (inf s) = refl
same (fin s m e) = refl

pub returns : goal.returns
returns c = c.is_finite.ensures.value ∙ same c.args.x

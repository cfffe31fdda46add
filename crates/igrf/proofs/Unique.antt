-- The public contracts leave one result each: the laws are over what the kit makes of the functions' `ensures`.
use mathlib.Core.Path.{refl, sym, ◌∙◌}
use denote.RattleType.{RattleType}
use denote.Param.Laws.{Laws}
use mir.Syntax.{Dict}
use Rattle.refusals.specs.OneResult.{OneResult}
use Rattle.igrf.specs.declared.gap.Share.{Ghosts}
use Rattle.igrf.proofs.Laws.{igrf_answer_one}
use Rattle.igrf.proofs.early as early_fn
use Rattle.igrf.proofs.gap.Gap.between as between_fn
use Rattle.igrf.proofs.igrf as igrf_fn
use Rattle.igrf.proofs.igrf_component_rates as component_rates_fn

pub early : OneResult early_fn.Kinds.ps early_fn.Kinds.r early_fn.Reads.Post
early κs a x y u v p q = (p ∙ sym q, refl)

pub igrf : OneResult igrf_fn.Kinds.ps igrf_fn.Kinds.r igrf_fn.Reads.Post
igrf κs a x y u v p q = (igrf_answer_one _ x y p.0 q.0, refl)

pub igrf_component_rates : OneResult component_rates_fn.Kinds.ps component_rates_fn.Kinds.r component_rates_fn.Reads.Post
igrf_component_rates κs a x y u v p q = (igrf_answer_one _ x y p.0 q.0, refl)

-- whatever shares it is made of
pub between : (T : RattleType) (L : Laws T) (S : Ghosts T.Denot) (d : Dict) → OneResult (between_fn.Kinds.ps T L) (between_fn.Kinds.r T L) (between_fn.Reads.Post T L S d)
between T L S d κs a x y u v p q = (p.0 ∙ sym q.0, refl)

-- `black::out_of_the_money` meets its contract: the region that is met says which formula it is (Regions). Assumes nothing.
use mathlib.Core.Path.{◌∙◌, ap}
use Rattle.std.specs.Prelude.{Ok}
use Rattle.elementary.proofs.Laws.Compare.{not_le_of_lt}
use Rattle.prices.specs.Black.{SMALL_T, small_t_of}
use Rattle.prices.proofs.Laws.Regions.{in_region_with, small_t_region}
use Rattle.prices.proofs.black.out_of_the_money.Goals as goal

pub returns-in-Intrinsic : goal.returns-in-Intrinsic
returns-in-Intrinsic g c = ap Ok c.normalised_intrinsic.ensures ∙ in_region_with _ _ _ _ _ c.region_of.ensures c.in-Intrinsic.is _ _

pub returns-in-Asymptotic : goal.returns-in-Asymptotic
returns-in-Asymptotic g c = c.asymptotic_expansion_of_normalised_black_call.ensures ∙ in_region_with _ _ _ _ _ c.region_of.ensures c.in-Asymptotic.is _ _

pub returns-in-SmallT : goal.returns-in-SmallT
unfolding small_t_of
returns-in-SmallT g c =
    rw (← in_region_with _ _ _ _ _ c.region_of.ensures c.in-SmallT.is _ _, c.small_t.ensures, not_le_of_lt _ SMALL_T (small_t_region _ _ _ c.region_of.ensures c.in-SmallT.is))

pub returns-in-Codys : goal.returns-in-Codys
returns-in-Codys g c = ap Ok c.codys.ensures ∙ in_region_with _ _ _ _ _ c.region_of.ensures c.in-Codys.is _ _

-- `black::call_at` calls itself at the depth below, so its measure is the depth.
use Rattle.prices.proofs.black.+call_at.Given as goal

abbrev pub decreases-call_at : goal.decreases-call_at
decreases-call_at l = l.depth

-- `black::black_at` calls itself at the depth below, so its measure is the depth.
use Rattle.prices.proofs.black.+black_at.Given as goal

abbrev pub decreases-black_at : goal.decreases-black_at
decreases-black_at l = l.depth

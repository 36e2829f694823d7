-- `listing::put_hex` calls itself with a digit less, so its measure is their count.
use Rattle.solver.proofs.listing.+put_hex.Given as goal

abbrev pub decreases-put_hex : goal.decreases-put_hex
decreases-put_hex l = l.digits

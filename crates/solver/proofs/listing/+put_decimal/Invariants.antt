-- `listing::put_decimal` calls itself with a digit less, so its measure is their count.
use Rattle.solver.proofs.listing.+put_decimal.Given as goal

abbrev pub decreases-put_decimal : goal.decreases-put_decimal
decreases-put_decimal l = l.digits

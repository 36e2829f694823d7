-- `black::small_t_expansion_of_normalised_black_call` meets its contract: each way out is the arm that the test leaves. Assumes nothing.
use Rattle.prices.specs.Black.{small_t_of}
use Rattle.prices.proofs.black.small_t_expansion_of_normalised_black_call.Goals as goal

pub returns-then-t : goal.returns-then-t
unfolding small_t_of
returns-then-t c = rw c.if-t.true

pub small_t-requires : goal.small_t-requires
small_t-requires c = c.bell.ensures

pub returns : goal.returns
unfolding small_t_of
returns c = rw (c.small_t.ensures, c.if-t.false)

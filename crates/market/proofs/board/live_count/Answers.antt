-- `board::live_count` meets its contract: the count that stands there, or 256. Assumes nothing.
use mathlib.Core.Path.{refl}
use borrow.Author.Tests.{lt-ltb, le-ltb}
use Rattle.market.proofs.board.live_count.Goals as goal

pub returns-then-count-lt-MOST_QUOTES-clause-value :
    goal.returns-then-count-lt-MOST_QUOTES-clause-value
returns-then-count-lt-MOST_QUOTES-clause-value c = rw (← c.number_at-count.ensures, lt-ltb _ _ c.if-count-lt-MOST_QUOTES.true) refl

pub returns-else-count-lt-MOST_QUOTES-clause-value :
    goal.returns-else-count-lt-MOST_QUOTES-clause-value
returns-else-count-lt-MOST_QUOTES-clause-value c = rw (← c.number_at-count.ensures, le-ltb _ _ c.if-count-lt-MOST_QUOTES.false) refl

-- How the live board's answers cross as plain numbers. Definitions only.
use Rattle.std.specs.Prelude.{ℕ, Option, Some, None}
use Rattle.std.specs.Float.{binary64}
use Rattle.std.specs.Float.Ieee.{to_bits, of_bits}
use Rattle.market.specs.declared.board.LiveQuote.{LiveQuote}

-- an arrival's series, and its volatility's bits
abbrev pub quote_from : ℕ → ℕ → LiveQuote
quote_from series volatility = record { series = series; volatility = of_bits binary64 volatility }

-- 1 where a quote is shown, else 0
abbrev pub shown_byte : Option LiveQuote → ℕ
shown_byte (Some q) = 1
shown_byte None = 0

-- its series and its volatility's bits, both 0 where there is none
abbrev pub shown_series : Option LiveQuote → ℕ
shown_series (Some q) = q.series
shown_series None = 0

abbrev pub shown_bits : Option LiveQuote → ℕ
shown_bits (Some q) = to_bits binary64 q.volatility
shown_bits None = 0

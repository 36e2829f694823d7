-- `black::price` meets its contract: each call is its definition, and a refusal passes up. Assumes nothing.
use mathlib.Core.Path.{◌≡◌, sym, ◌∙◌}
use Rattle.std.proofs.Common.{rules}
use Rattle.std.specs.Prelude.{Ok, Err}
use Rattle.std.specs.Float.{binary64}
use Rattle.elementary.specs.Ops.{◌⊗◌, ◌⊘◌}
use Rattle.elementary.specs.Sqrt.{sqrt_of}
use Rattle.elementary.specs.Ln.{ln_of}
use Rattle.prices.specs.Black.{normalised_black_of, price_of}
use Rattle.prices.proofs.black.price.Goals as goal

pub returns-in_err-b : goal.returns-in_err-b
unfolding price_of
returns-in_err-b c =
    let e : c.normalised_black.result ≡ Err c.in_err-b.field-0.0 = search rules in
    let r : c.from_residual.result ≡ Err c.in_err-b.field-0.0 = search rules in
    let b : normalised_black_of c.args.set (ln_of (c.args.forward ⊘ c.args.strike)) (c.args.sigma ⊗ sqrt_of binary64 c.args.expiry) c.args.option_type ≡ Err c.in_err-b.field-0.0 =
    rw (c.sqrt_3.ensures, c.ln-x.ensures) at (sym c.normalised_black.ensures ∙ e) in
    r ∙ rw b

pub returns : goal.returns
unfolding price_of
returns c =
    let e : c.normalised_black.result ≡ Ok c.in_ok-b.b = search rules in
    let b : normalised_black_of c.args.set (ln_of (c.args.forward ⊘ c.args.strike)) (c.args.sigma ⊗ sqrt_of binary64 c.args.expiry) c.args.option_type ≡ Ok c.in_ok-b.b =
    rw (c.sqrt_3.ensures, c.ln-x.ensures) at (sym c.normalised_black.ensures ∙ e) in
    rw (b, c.max.ensures, c.max-intrinsic.ensures, c.mul.ensures, c.sqrt_3.ensures)

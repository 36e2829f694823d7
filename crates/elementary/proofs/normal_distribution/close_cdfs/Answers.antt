-- `normal_distribution::close_cdfs` meets its contract: k / 16 is the tilde of each, and its place says where each stands. Assumes nothing.
use borrow.Author.Rules.{rules}
use native.Mathlib.Omega.{arith}
use Rattle.elementary.proofs.Laws.Close.{up_to_four, above_four}
use Rattle.elementary.proofs.Laws.Eight.{in_each, both, same_tilde}
use Rattle.elementary.proofs.normal_distribution.close_cdfs.Goals as goal

pub factors-f-requires-clause-tildes : goal.factors-f-requires-clause-tildes
factors-f-requires-clause-tildes c =
    let h = c.requires in
    same_tilde _ _ (omega (arith, h.low)) c.args.near.k_high h.close c.sixteenth.ensures c.of.ensures

pub zip3-requires : goal.zip3-requires
zip3-requires c =
    let h = c.requires in
    let between = in_each (λ at p. up_to_four h.low (omega (arith, c.if-near-lt64.true)) p c.if-near-lt64.true) h.close in
    in_each (λ at p. search rules) (both h.sizes (both between c.factors-f.ensures))

pub zip3-requires-then-near-lt416 : goal.zip3-requires-then-near-lt416
zip3-requires-then-near-lt416 c =
    let h = c.requires in
    let between = in_each (λ at p. above_four h.low c.if-near-lt416.true p c.if-near-gt64.true) h.close in
    in_each (λ at p. search rules) (both h.sizes (both between c.factors-f.ensures))

pub returns-then-near-lt64 : goal.returns-then-near-lt64
returns-then-near-lt64 c = in_each (λ at p. search rules) c.zip3.ensures

pub returns-then-near-lt416 : goal.returns-then-near-lt416
returns-then-near-lt416 c = in_each (λ at p. search rules) c.zip3-then-near-lt416.ensures

pub returns : goal.returns
returns c = in_each (λ at p. search rules) c.zip3-2.ensures

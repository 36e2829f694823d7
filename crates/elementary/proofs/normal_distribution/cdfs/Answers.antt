-- `normal_distribution::cdfs` meets its contract. Assumes nothing.
use borrow.Author.Rules.{rules}
use native.Mathlib.Omega.{arith}
use Rattle.elementary.specs.Inside.Each.{All}
use Rattle.elementary.specs.Inside.Cdf.{Close}
use Rattle.elementary.proofs.Laws.Eight.{in_each, both, through, close_size}
use Rattle.elementary.proofs.normal_distribution.cdfs.Goals as goal

pub returns-then-all : goal.returns-then-all
returns-then-all c = through _ _ _ _ (in_each (λ at p. search rules) c.map-w.ensures) c.close_cdfs.ensures

pub returns-else-all : goal.returns-else-all
returns-else-all c = through _ _ _ _ (in_each (λ at p. search rules) c.map-w.ensures) c.outer_cdfs.ensures

pub returns-then-near-lt8 : goal.returns-then-near-lt8
returns-then-near-lt8 c = in_each (λ at p. search rules) c.map.ensures

pub close_cdfs-requires : goal.close_cdfs-requires
close_cdfs-requires c =
    let tested = c.all.ensures c.if-all.true in
    let close : All (Close c.args.near.k) c.map-y.result = in_each (λ at p. close_size (at c.args.x) {w = at c.map-w.result} (at c.map-y.result) (search rules) (search rules) (search rules)) (both (both c.map-w.ensures c.map-y.ensures) tested) in
    record { low = omega (arith, c.if-near-lt8.false); sizes = in_each (λ at p. search rules) c.map-y.ensures; close = close }

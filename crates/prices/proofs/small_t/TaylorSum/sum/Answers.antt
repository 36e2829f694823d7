-- `small_t::TaylorSum::sum` meets its contract: where no step is in doubt, each is its definition, and `fma` by 1 is the last sum. Assumes nothing.
use mathlib.Core.Path.{sym, ◌∙◌}
use lib.Dec.{lit<, lit≤}
use lib.Ieee.{Float, of_bits, of_int}
use Rattle.elementary.specs.Ops.{◌⊗◌, ◌⊘◌, bits}
use Rattle.elementary.proofs.Laws.FmaOne.{fma_one}
use Rattle.prices.specs.Black.{term1, term2, term3, term4, term5, term6, taylor_of}
use Rattle.prices.specs.Inside.SmallT.{Within, Adds, horner_sum}
use Rattle.prices.proofs.Laws.Sizes.{looser, times, over, one_or_more}
use Rattle.prices.proofs.small_t.Ranges.{power_within}
use Rattle.prices.proofs.small_t.TaylorSum.sum.Goals as goal

-- ---- the sizes
power : {x y : Float} → Within x 0 → Within y 0 → Within (x ⊗ y) 0
power h k = times 0 (lit≤ tt) (lit< tt) h k

-- the first term of the sum, by the innermost bracket of term 6
first_term : {y t2 : Float} → Within y 266 → Within t2 0 → Within (y ⊘ bits 0x41f7_328c_c000_0000 ⊗ (t2 ⊗ t2 ⊗ t2 ⊗ (t2 ⊗ t2 ⊗ t2))) 300
first_term h t =
    let t6 = power (power t t) t in
    times 300 (lit≤ tt) (lit< tt) (over (lit< tt) h (one_or_more 0x41f7_328c_c000_0000 (lit≤ tt) (lit< tt))) (power t6 t6)

-- the sum after one more term, and after two, three and four
after1 : {s v : Float} → Within s 300 → Adds s v → Within v 310
after1 h a = a 300 (lit≤ tt) (lit≤ tt) h

after2 : {s v w : Float} → Within s 300 → Adds s v → Adds v w → Within w 320
after2 h a b = b 310 (lit≤ tt) (lit≤ tt) (after1 h a)

after3 : {s v w x : Float} → Within s 300 → Adds s v → Adds v w → Adds w x → Within x 330
after3 h a b c = c 320 (lit≤ tt) (lit≤ tt) (after2 h a b)

after4 : {s v w x y : Float} → Within s 300 → Adds s v → Adds v w → Adds w x → Adds x y → Within y 340
after4 h a b c d = d 330 (lit≤ tt) (lit≤ tt) (after3 h a b c)

pub horner_step-y2-requires-clause-sum_within : goal.horner_step-y2-requires-clause-sum_within
horner_step-y2-requires-clause-sum_within g c = λ r. looser 300 (lit≤ tt) (c.innermost-bracket.ensures.within r)

pub horner_step-y6-requires-clause-sum_within : goal.horner_step-y6-requires-clause-sum_within
horner_step-y6-requires-clause-sum_within g c = λ r. looser 300 (lit≤ tt) (c.horner_sums-s.ensures.size r 16 (lit< tt))

pub add_term-sum-requires : goal.add_term-sum-requires
add_term-sum-requires g c = λ r.
    let t2 = power_within (c.args.self.now.in_ranges r) in
    let s = c.horner_sums-s.ensures.size r in
    let size = first_term (c.horner_step-y6.ensures.bound r 222 (lit≤ tt) (s 16 (lit< tt))) t2 in
    record {
      sum_within = looser 600 (lit≤ tt) size;
      y_within = looser 300 (lit≤ tt) (s 17 (lit< tt));
      factorial_over = one_or_more 0x4183_08a8_0000_0000 (lit≤ tt) (lit< tt);
      power_within = power (power (power t2 t2) t2) (power t2 t2);
    }

pub add_term-sum-requires-2 : goal.add_term-sum-requires-2
add_term-sum-requires-2 g c = λ r.
    let t2 = power_within (c.args.self.now.in_ranges r) in
    let s = c.horner_sums-s.ensures.size r in
    let size = first_term (c.horner_step-y6.ensures.bound r 222 (lit≤ tt) (s 16 (lit< tt))) t2 in
    record {
      sum_within = looser 600 (lit≤ tt) (after1 size (c.add_term-sum.ensures.bound r));
      y_within = looser 300 (lit≤ tt) (s 14 (lit< tt));
      factorial_over = one_or_more 0x4116_2600_0000_0000 (lit≤ tt) (lit< tt);
      power_within = power (power t2 t2) (power t2 t2);
    }

pub add_term-sum-requires-3 : goal.add_term-sum-requires-3
add_term-sum-requires-3 g c = λ r.
    let t2 = power_within (c.args.self.now.in_ranges r) in
    let s = c.horner_sums-s.ensures.size r in
    let size = first_term (c.horner_step-y6.ensures.bound r 222 (lit≤ tt) (s 16 (lit< tt))) t2 in
    record {
      sum_within = looser 600 (lit≤ tt) (after2 size (c.add_term-sum.ensures.bound r) (c.add_term-sum-2.ensures.bound r));
      y_within = looser 300 (lit≤ tt) (s 11 (lit< tt));
      factorial_over = one_or_more 0x40b3_b000_0000_0000 (lit≤ tt) (lit< tt);
      power_within = power (power t2 t2) t2;
    }

pub add_term-sum-requires-4 : goal.add_term-sum-requires-4
add_term-sum-requires-4 g c = λ r.
    let t2 = power_within (c.args.self.now.in_ranges r) in
    let s = c.horner_sums-s.ensures.size r in
    let size = first_term (c.horner_step-y6.ensures.bound r 222 (lit≤ tt) (s 16 (lit< tt))) t2 in
    record {
      sum_within = looser 600 (lit≤ tt) (after3 size (c.add_term-sum.ensures.bound r) (c.add_term-sum-2.ensures.bound r) (c.add_term-sum-3.ensures.bound r));
      y_within = looser 300 (lit≤ tt) (c.horner_step-y2.ensures.bound r 46 (lit≤ tt) (c.innermost-bracket.ensures.within r));
      factorial_over = one_or_more 0x405e_0000_0000_0000 (lit≤ tt) (lit< tt);
      power_within = power t2 t2;
    }

pub add_term-sum-requires-5 : goal.add_term-sum-requires-5
add_term-sum-requires-5 g c = λ r.
    let t2 = power_within (c.args.self.now.in_ranges r) in
    let s = c.horner_sums-s.ensures.size r in
    let size = first_term (c.horner_step-y6.ensures.bound r 222 (lit≤ tt) (s 16 (lit< tt))) t2 in
    record {
      sum_within = looser 600 (lit≤ tt) (after4 size (c.add_term-sum.ensures.bound r) (c.add_term-sum-2.ensures.bound r) (c.add_term-sum-3.ensures.bound r) (c.add_term-sum-4.ensures.bound r));
      y_within = looser 300 (lit≤ tt) (c.innermost-y1.ensures.within r);
      factorial_over = one_or_more 0x4018_0000_0000_0000 (lit≤ tt) (lit< tt);
      power_within = t2;
    }

-- ---- the values, where no step is in doubt
pub returns : goal.returns
unfolding taylor_of term1 term2 term3 term4 term5 term6 horner_sum of_bits of_int
returns g c = λ z5.
    let a = c.args.self.now.a in
    let h2 = c.args.self.now.h2 in
    let f5 = c.add_term-sum-5.ensures in
    let f4 = c.add_term-sum-4.ensures in
    let f3 = c.add_term-sum-3.ensures in
    let f2 = c.add_term-sum-2.ensures in
    let f1 = c.add_term-sum.ensures in
    let y6 = c.horner_step-y6 in
    let y2 = c.horner_step-y2 in
    let y1 = c.innermost-y1 in
    let bracket = c.innermost-bracket in
    let sums = c.horner_sums-s in
    let both = g.met.S.Steps.both in
    let z4 = f5.no_earlier_doubt z5 in
    let z3 = f4.no_earlier_doubt z4 in
    let z2 = f3.no_earlier_doubt z3 in
    let z1 = f2.no_earlier_doubt z2 in
    let with_y6 = both _ _ (f1.no_earlier_doubt z1) in
    let with_y2 = both _ _ with_y6.0 in
    let with_bracket = both _ _ with_y2.0 in
    let with_y1 = both _ _ with_bracket.0 in
    let right = sums.ensures.right with_y1.0 in
    sym (fma_one _ _)
    ∙ rw (f5.value z5, f4.value z4, f3.value z3, f2.value z2, f1.value z1, y1.ensures.value with_y1.1, y2.ensures.value with_y2.1, bracket.ensures.value with_bracket.1, right 11 (lit< tt), right 14 (lit< tt), right 17 (lit< tt), y6.ensures.value with_y6.1, right 16 (lit< tt))

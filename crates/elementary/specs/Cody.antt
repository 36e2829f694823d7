-- Cody's rational approximations of the error function, cody/optimized.rs: tables, thresholds and Horner order are the Rust's. Definitions only.
use Rattle.std.specs.Prelude.{cond, List, [], ◌∷◌, ℕ, get_or, Float}
use Rattle.std.specs.Float.{binary64}
use Rattle.std.specs.Float.Ieee.{neg, lt, le}
use Rattle.elementary.specs.Ops.{◌⊕◌, ◌⊖◌, ◌⊗◌, ◌⊘◌, bits, +0, one, two, MAX, four, sixteen}
use Rattle.elementary.specs.declared.rule_set.RuleSet.{RuleSet}
use Rattle.elementary.specs.Methods.{abs_of}
use Rattle.elementary.specs.Floor.{floor_of}
use Rattle.elementary.specs.Exp.{exp_of}

-- 1 / √π
abbrev pub FRAC_1_SQRT_PI : Float
FRAC_1_SQRT_PI = bits 0x3fe2_0dd7_5042_9b6d  -- 0.5641895835477563

-- up to it, in size, the centre's rational serves
abbrev pub THRESHOLD : Float
THRESHOLD = bits 0x3fde_0000_0000_0000  -- 0.46875

-- below it erfcx is f64::MAX
abbrev pub XNEG : Float
XNEG = bits 0xc03a_a0f4_d2e0_63b5  -- −26.6287357137514

-- from it on erfc is its far arm
abbrev pub XBIG : Float
XBIG = bits 0x403a_8b02_0c49_ba5e  -- 26.543

-- Cody's six tables, by index
abbrev entry : List ℕ → ℕ → Float
entry table i = bits (get_or table i 0)

abbrev pub A : ℕ → Float  -- up to the threshold, over B
A = entry
    (0x4009_49fb_3ed4_43e9  -- 3.1611237438705655
    ∷ 0x405c_774e_4d36_5da3  -- 113.86415415105016
    ∷ 0x4077_97c3_8897_528b  -- 377.485237685302
    ∷ 0x40a9_12c1_535d_121a  -- 3209.3775891384694
    ∷ 0x3fc7_c790_5a31_c322  -- 0.18577770618460315
    ∷ [])

abbrev pub B : ℕ → Float  -- under A
B = entry
    (0x4037_99ee_342f_b2de  -- 23.601290952344122
    ∷ 0x406e_80c9_d57e_55b8  -- 244.02463793444417
    ∷ 0x4094_0a77_529c_adc8  -- 1282.6165260773723
    ∷ 0x40a6_3879_423b_87ad  -- 2844.236833439171
    ∷ [])

abbrev pub C : ℕ → Float  -- from there to 4, over D
C = entry
    (0x3fe2_0dd5_08eb_103e  -- 0.5641884969886701
    ∷ 0x4021_c42c_35b8_bc02  -- 8.883149794388377
    ∷ 0x4050_87a0_d1c4_20d0  -- 66.11919063714163
    ∷ 0x4072_aa29_86ab_a462  -- 298.6351381974001
    ∷ 0x408b_8f9e_262b_9fa3  -- 881.952221241769
    ∷ 0x409a_c030_c15d_c8d7  -- 1712.0476126340707
    ∷ 0x40a0_0628_2123_6f6b  -- 2051.0783778260716
    ∷ 0x4093_395b_7fd2_fc8e  -- 1230.3393547979972
    ∷ 0x3e57_1e70_3c5f_5815  -- 2.1531153547440383e-08
    ∷ [])

abbrev pub D : ℕ → Float  -- under C
D = entry
    (0x402f_7d66_f486_ded5  -- 15.744926110709835
    ∷ 0x405d_6c69_b0ff_cde7  -- 117.6939508913125
    ∷ 0x4080_c972_e588_749e  -- 537.1811018620099
    ∷ 0x4099_558e_eca2_9d27  -- 1621.3895745666903
    ∷ 0x40a9_b599_356d_1202  -- 3290.7992357334597
    ∷ 0x40b1_0a9e_7cb1_0e86  -- 4362.619090143247
    ∷ 0x40aa_debc_3fc9_0dbd  -- 3439.3676741437216
    ∷ 0x4093_395b_7fd3_5f61  -- 1230.3393548037495
    ∷ [])

abbrev pub P : ℕ → Float  -- above 4, over Q
P = entry
    (0x3fd3_8a78_b9f0_65f6  -- 0.30532663496123236
    ∷ 0x3fd7_0fe4_0e24_25b8  -- 0.36034489994980445
    ∷ 0x3fc0_199d_980a_842f  -- 0.12578172611122926
    ∷ 0x3f90_7844_8cd6_c5b5  -- 0.016083785148742275
    ∷ 0x3f45_95fd_0d71_e33c  -- 0.0006587491615298378
    ∷ 0x3f90_b4fb_18b4_85c7  -- 0.016315387137302097
    ∷ [])

abbrev pub Q : ℕ → Float  -- under P
Q = entry
    (0x4004_8c54_5088_00db  -- 2.568520192289822
    ∷ 0x3ffd_f79d_6855_f0ad  -- 1.8729528499234604
    ∷ 0x3fe0_e499_3e12_2c39  -- 0.5279051029514285
    ∷ 0x3fae_fc42_917d_7de7  -- 0.06051834131244132
    ∷ 0x3f63_2147_a014_bad1  -- 0.0023352049762686918
    ∷ [])

-- x cut toward zero
abbrev pub d_int_of : Float → Float
d_int_of x = cond (lt +0 x) (floor_of binary64 x) (neg (floor_of binary64 (neg x)))

-- y to a multiple of 1/16 toward zero
unfoldable pub tilde_of : Float → Float
tilde_of y = d_int_of (y ⊗ sixteen) ⊘ sixteen

-- what the two exponentials of a negative square are of: −y_tilde × y_tilde, and −(y − y_tilde) × (y + y_tilde)
abbrev pub negative_square : Float → Float
negative_square t = neg t ⊗ t

-- the second of them
abbrev pub negative_rest : Float → Float
negative_rest y = neg (y ⊖ tilde_of y) ⊗ (y ⊕ tilde_of y)

-- exp(−y²) in two factors: of the square of tilde y, and of the rest
unfoldable pub smoothened_exponential_of_negative_square : Float → Float
smoothened_exponential_of_negative_square y = exp_of (negative_square (tilde_of y)) ⊗ exp_of (negative_rest y)

-- exp(x²), the same way
unfoldable pub smoothened_exponential_of_positive_square : Float → Float
smoothened_exponential_of_positive_square x = exp_of (tilde_of x ⊗ tilde_of x) ⊗ exp_of ((x ⊖ tilde_of x) ⊗ (x ⊕ tilde_of x))

-- the rational of the centre, over A and B
abbrev pub ab_of : Float → Float
ab_of z =
    ((((A 4 ⊗ z ⊕ A 0) ⊗ z ⊕ A 1) ⊗ z ⊕ A 2) ⊗ z ⊕ A 3)
    ⊘ ((((z ⊕ B 0) ⊗ z ⊕ B 1) ⊗ z ⊕ B 2) ⊗ z ⊕ B 3)

-- up to 4, over C and D
abbrev pub cd_of : Float → Float
cd_of y =
    ((((((((C 8 ⊗ y ⊕ C 0) ⊗ y ⊕ C 1) ⊗ y ⊕ C 2) ⊗ y ⊕ C 3) ⊗ y ⊕ C 4) ⊗ y ⊕ C 5) ⊗ y ⊕ C 6) ⊗ y ⊕ C 7)
    ⊘ ((((((((y ⊕ D 0) ⊗ y ⊕ D 1) ⊗ y ⊕ D 2) ⊗ y ⊕ D 3) ⊗ y ⊕ D 4) ⊗ y ⊕ D 5) ⊗ y ⊕ D 6) ⊗ y ⊕ D 7)

-- above 4, over P and Q
abbrev pub pq_of : Float → Float
pq_of z =
    z ⊗ (((((P 5 ⊗ z ⊕ P 0) ⊗ z ⊕ P 1) ⊗ z ⊕ P 2) ⊗ z ⊕ P 3) ⊗ z ⊕ P 4)
    ⊘ (((((z ⊕ Q 0) ⊗ z ⊕ Q 1) ⊗ z ⊕ Q 2) ⊗ z ⊕ Q 3) ⊗ z ⊕ Q 4)

-- erfcx for a y above the threshold
unfoldable pub erfcx_above_threshold : Float → Float
erfcx_above_threshold y =
    let small = cd_of y in
    let large = (FRAC_1_SQRT_PI ⊖ pq_of (one ⊘ (y ⊗ y))) ⊘ y in
    cond (le y four) small large

-- erfc of |x| = y for a y above the threshold. The exponential factor multiplies all three arms, also the far one's 0, by document 01's rules.
unfoldable pub erfc_abs : RuleSet → Float → Float
erfc_abs set y =
    let factor = smoothened_exponential_of_negative_square y in
    let far = cond set.far_factor (+0 ⊗ factor) +0 in
    let near = erfcx_above_threshold y ⊗ factor in
    cond (le XBIG y) far near

-- erfc
unfoldable pub erfc_of : RuleSet → Float → Float
erfc_of set x =
    let y = abs_of x in
    let centre = one ⊖ x ⊗ ab_of (y ⊗ y) in
    let right = erfc_abs set y in
    let left = two ⊖ right in
    cond (le y THRESHOLD) centre (cond (lt x +0) left right)

-- erfcx
unfoldable pub erfcx_of : Float → Float
erfcx_of x =
    let y = abs_of x in
    let z = y ⊗ y in
    let centre = exp_of z ⊗ (one ⊖ x ⊗ ab_of z) in
    let expx2 = smoothened_exponential_of_positive_square x in
    let right = erfcx_above_threshold y in
    let left = (expx2 ⊕ expx2) ⊖ right in
    cond (le y THRESHOLD) centre (cond (lt x XNEG) MAX (cond (lt x +0) left right))

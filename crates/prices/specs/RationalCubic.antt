-- rational_cubic.rs, operation by operation. Definitions only.
use Rattle.std.specs.Prelude.{Bool, false, not, cond, ◌&&◌, ◌||◌, Float, Ok, Err}
use Rattle.std.specs.Float.Ieee.{lt, le, eq}
use Rattle.std.specs.Float.{inf}
use Rattle.elementary.specs.Ops.{◌⊕◌, ◌⊖◌, ◌⊗◌, ◌⊘◌, bits, float, +0, half, one, mul_add, EPSILON, MIN}
use Rattle.elementary.specs.Methods.{abs_of, max_of, is_zero}
use Rattle.prices.specs.declared.rational_cubic.Side.{Side}
use Rattle.prices.specs.declared.rational_cubic.Side.TheVariants.{Left, Right}
use Rattle.prices.specs.Answers.{Answer}
use Rattle.prices.specs.declared.refusal.Refusal.TheVariants.{InfinitePlace}

-- the least control parameter, −(1 − √EPSILON)
abbrev pub MINIMUM : Float
MINIMUM = bits 0xbfef_ffff_f800_0000  -- −0.9999999850988388

-- the largest, 2 / EPSILON²: from it on the curve is a straight line
abbrev pub MAXIMUM : Float
MAXIMUM = bits 0x4680_0000_0000_0000  -- 4.056481920730334e+31

-- an infinity of either sign
abbrev pub is_infinite : Float → Bool
is_infinite x = eq (abs_of x) (inf false)

-- the value at t, from 0 at the left place to 1 at the right one, which are h apart
unfoldable pub curve_of : Float → Float → Float → Float → Float → Float → Float → Float
curve_of h t y_l y_r d_l d_r r =
    let omt = one ⊖ t in
    let t2 = t ⊗ t in
    let omt2 = omt ⊗ omt in
    let numerator = y_r ⊗ t2 ⊗ t ⊕ (r ⊗ y_r ⊖ h ⊗ d_r) ⊗ t2 ⊗ omt ⊕ (r ⊗ y_l ⊕ h ⊗ d_l) ⊗ t ⊗ omt2 ⊕ y_l ⊗ omt2 ⊗ omt in
    let denominator = one ⊕ (r ⊖ float 3) ⊗ t ⊗ omt in
    let straight = mul_add y_r t (y_l ⊗ omt) in
    let curved = numerator ⊘ denominator in
    cond (lt r MAXIMUM) curved straight

-- rational_cubic_interpolation: 6 for an infinite place, the middle of both values where the places lie within EPSILON
unfoldable pub interpolation_of : Float → Float → Float → Float → Float → Float → Float → Float → Answer
interpolation_of x x_l x_r y_l y_r d_l d_r r =
    let h = x_r ⊖ x_l in
    let curve = curve_of h ((x ⊖ x_l) ⊘ h) y_l y_r d_l d_r r in
    let middle = half ⊗ (y_l ⊕ y_r) in
    cond (is_infinite x || (is_infinite x_l || is_infinite x_r)) (Err InfinitePlace) (cond (le (abs_of h) EPSILON) (Ok middle) (Ok curve))

-- both slopes have the secant's sign, or are 0
abbrev pub is_monotonic : Float → Float → Float → Bool
is_monotonic d_l d_r s = le +0 (d_l ⊗ s) && le +0 (d_r ⊗ s)

-- the slope grows from left to right
abbrev pub is_convex : Float → Float → Float → Bool
is_convex d_l d_r s = le d_l s && le s d_r

-- the slope falls from left to right
abbrev pub is_concave : Float → Float → Float → Bool
is_concave d_l d_r s = le s d_l && le d_r s

-- r1: the least parameter that keeps the curve monotonic
abbrev pub monotonic_parameter : Bool → Float → Float → Float → Bool → Float
monotonic_parameter monotonic d_l d_r s prefer =
    cond monotonic (cond (is_zero s) (cond prefer MAXIMUM MIN) ((d_r ⊕ d_l) ⊘ s)) MIN

-- r2: the least parameter that keeps it convex or concave
abbrev pub shape_parameter : Bool → Bool → Float → Float → Float → Bool → Float
shape_parameter curved monotonic d_l d_r s prefer =
    let width = d_r ⊖ d_l in
    let right = d_r ⊖ s in
    let left = s ⊖ d_l in
    cond (curved && (not (is_zero left) && not (is_zero right))) (max_of (abs_of (width ⊘ right)) (abs_of (width ⊘ left)))
    (cond (monotonic && prefer) MAXIMUM MIN)

-- minimum_rational_cubic_control_parameter
unfoldable pub minimum_parameter_of : Float → Float → Float → Bool → Float
minimum_parameter_of d_l d_r s prefer =
    let monotonic = is_monotonic d_l d_r s in
    let curved = is_convex d_l d_r s || is_concave d_l d_r s in
    cond (monotonic || curved) (max_of MINIMUM (max_of (monotonic_parameter monotonic d_l d_r s prefer) (shape_parameter curved monotonic d_l d_r s prefer))) MINIMUM

-- what the second derivative is divided by, at either side
abbrev pub denominator_at : Side → Float → Float → Float → Float
denominator_at Left slope d_l d_r = slope ⊖ d_l
denominator_at Right slope d_l d_r = d_r ⊖ slope

-- rational_cubic_control_parameter: the parameter that fits the second derivative at one side
unfoldable pub control_parameter_of : Float → Float → Float → Float → Float → Float → Float → Side → Float
control_parameter_of x_l x_r y_l y_r d_l d_r second_derivative side =
    let h = x_r ⊖ x_l in
    let numerator = half ⊗ mul_add second_derivative h (d_r ⊖ d_l) in
    let denominator = denominator_at side ((y_r ⊖ y_l) ⊘ h) d_l d_r in
    cond (is_zero numerator) +0
    (cond (is_zero denominator || is_infinite denominator) (cond (lt +0 numerator) MAXIMUM MINIMUM) (numerator ⊘ denominator))

-- convex_rational_cubic_control_parameter: the same, and not below the minimum
unfoldable pub convex_parameter_of : Float → Float → Float → Float → Float → Float → Float → Bool → Side → Float
convex_parameter_of x_l x_r y_l y_r d_l d_r second_derivative prefer side =
    max_of (control_parameter_of x_l x_r y_l y_r d_l d_r second_derivative side) (minimum_parameter_of d_l d_r ((y_r ⊖ y_l) ⊘ (x_r ⊖ x_l)) prefer)

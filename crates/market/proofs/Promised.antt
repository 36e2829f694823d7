-- The proofs of the promises. Assumes nothing.
use mathlib.Core.Path.{◌≡◌, refl}
use native.Mathlib.Omega.{arith}
use borrow.Author.Tests.{lt-ltb}
use mathlib.Core.List.{[], ◌∷◌}
use Prim.Native.Nat.{◌<◌}
use lib.ListN.{length}
use lib.Ieee.{binary64}
use Rattle.std.specs.Prelude.{Result, Ok, Err}
use Rattle.elementary.proofs.Promised.{round_is_nearest}
use Rattle.market.specs.declared.packed.Units.{Units}
use Rattle.market.specs.declared.refusal.Refusal.{Refusal}
use Rattle.market.specs.Board.{arrival_check}
use Rattle.market.specs.Promises.Board.{live_after, leave, BoardFollowsCalls, LiveAfterCalls, LeftPlaceIsFilled, HighestIsEarliest, OnAnyBoard}
use Rattle.market.specs.Packed.{units_in, price_of, read_of, units_of, write_of, writing_by, price_by}
use Rattle.market.specs.Promises.Packed.{PackedAreUnits, ReadIsRounded, PackedComesBack, WriteIsNearest, WrittenUpToLargest}
use Rattle.market.proofs.Laws.Calls.{are_live, after_leaving, one_fewer}
use Rattle.market.proofs.Laws.Boards.{on_board, all_calls, empty_holds}
use Rattle.market.proofs.Laws.Highest.{earliest}
use Rattle.market.proofs.Laws.Digits.{of_bytes, of_units, length_packed, refused_bytes}
use Rattle.market.proofs.Laws.Whole.{nearest_one, written_nearest, refused_many, accepted_few, refused_other}
use Rattle.market.proofs.Laws.Back.{comes_back}
use Rattle.market.proofs.Laws.Border.{written_to, none_after}

pub board_follows_calls : BoardFollowsCalls
board_follows_calls calls given = all_calls _ [] calls empty_holds given

pub live_after_calls : LiveAfterCalls
live_after_calls past = are_live past

pub left_place_is_filled : LeftPlaceIsFilled
unfolding arrival_check
left_place_is_filled past s q live number new =
    let less = one_fewer s (live_after past) live in
    let few = (are_live past).few in
    let free : length (live_after (leave s ∷ past)) < 256 = rw after_leaving (omega (arith, less, few)) in
    rw (number, new, lt-ltb _ _ free) refl

pub highest_is_earliest : HighestIsEarliest
highest_is_earliest = record { none = refl; one = earliest }

pub on_any_board : OnAnyBoard
on_any_board board inside = on_board board inside

-- ---- packed prices

pub packed_are_units : PackedAreUnits
packed_are_units = record { all = λ u a. (length_packed u, of_units u a); no_other = of_bytes; refused = refused_bytes }

pub read_is_rounded : ReadIsRounded
unfolding read_of price_of
read_is_rounded packed u e = (rw e refl, round_is_nearest binary64 u.minus u.size 10000 (omega arith))

pub packed_comes_back : PackedComesBack
unfolding read_of write_of
packed_comes_back packed before price long e = go (units_in packed) refl e
  where
    go : (r : Result Units Refusal) → units_in packed ≡ r → price_by r ≡ Ok price → writing_by (units_of price) before ≡ record { answer = Ok tt; packed = packed }
    go (Ok u) i k =
        let known = of_bytes packed u long i in
        let same : price ≡ price_of u = cc in
        rw (same, comes_back u known.0, known.1) refl
    go (Err refusal) i k = cc

pub write_is_nearest : WriteIsNearest
write_is_nearest = record { written = written_nearest; refused = refused_many; accepted = accepted_few; no_number = refused_other; one = nearest_one }

pub written_up_to_largest : WrittenUpToLargest
written_up_to_largest = record { written = written_to; no_other = none_after }

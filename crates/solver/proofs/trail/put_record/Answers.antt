-- `trail::put_record` meets its contract: six floats, one behind the other.
use Rattle.solver.proofs.Laws.Parts.{behind}
use Rattle.solver.specs.LittleEndian.{overwritten, float_bytes}
use Rattle.solver.specs.Trail.{record_bytes}
use mathlib.Core.Path.{◌≡◌}
use mathlib.Core.List.{List, ◌++◌}
use Prim.Native.Nat.{ℕ}
use lib.ListN.{drop}
use Rattle.solver.specs.declared.state.Record.{Record}
use Rattle.solver.proofs.trail.put_record.Goals as goal

module _ (r : Record) (l₀ l₁ l₂ l₃ l₄ l₅ l₆ : List ℕ) where
  six : l₁ ≡ overwritten 0 (float_bytes r.s) l₀ → l₂ ≡ overwritten 8 (float_bytes r.b) l₁ → l₃ ≡ overwritten 16 (float_bytes r.vega) l₂
      → l₄ ≡ overwritten 24 (float_bytes r.left) l₃ → l₅ ≡ overwritten 32 (float_bytes r.right) l₄ → l₆ ≡ overwritten 40 (float_bytes r.after) l₅
      → l₆ ≡ record_bytes r ++ drop 48 l₀
  unfolding record_bytes
  six e₁ e₂ e₃ e₄ e₅ e₆ =
      let a = float_bytes r.s in
      let b = a ++ float_bytes r.b in
      let d = b ++ float_bytes r.vega in
      let e = d ++ float_bytes r.left in
      let f = e ++ float_bytes r.right in
      let p₂ = behind a (float_bytes r.b) l₀ l₁ l₂ e₁ e₂ in
      let p₃ = behind b (float_bytes r.vega) l₀ l₂ l₃ p₂ e₃ in
      let p₄ = behind d (float_bytes r.left) l₀ l₃ l₄ p₃ e₄ in
      let p₅ = behind e (float_bytes r.right) l₀ l₄ l₅ p₄ e₅ in
      behind f (float_bytes r.after) l₀ l₅ l₆ p₅ e₆

pub returns : goal.returns
returns c =
    let c₆ = c.before.before in
    let c₅ = c₆.before.before.before.before in
    let c₄ = c₅.before.before.before.before in
    let c₃ = c₄.before.before.before.before in
    let c₂ = c₃.before.before.before.before in
    let c₁ = c₂.before.before.before.before in
    let a = c₁.args in
    six a.r a.out.now _ _ _ _ _ _ c₁.put_float.ensures c₂.put_float-2.ensures c₃.put_float-3.ensures c₄.put_float-4.ensures c₅.put_float-5.ensures
    c₆.put_float-6.ensures

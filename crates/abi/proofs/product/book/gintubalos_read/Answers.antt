-- `product::book::gintubalos_read` meets its contract: where the record exists its place is inside the book. Assumes nothing.
use native.Mathlib.Omega.{arith}
use Rattle.solver.proofs.book.Slots.{inside, exists}
use Rattle.abi.proofs.product.book.gintubalos_read.Goals as goal

pub overflow_mul-result : goal.overflow_mul-result
overflow_mul-result c =
    let a = c.args in
    omega (arith, inside a.book.now a.used a.k (exists a.book.now a.used a.k _ c.in-Ok.ensures).0)

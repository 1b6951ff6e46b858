-- What is read from the columns of a label table that are the sheet's own: PREORDER, SIZE and INLABEL of a node, and their bounds.
-- Assumes nothing.
use Prim.Native.Nat.{ℕ, ◌+◌, ◌*◌, ◌≤◌, ◌<◌}
use native.Mathlib.Nat.{lt_of_lt_of_le}
use native.Mathlib.Omega.{arith}
use mathlib.Core.Path.{◌≡◌, refl, sym}
use mathlib.Core.List.{List}
use lib.Dec.{lit<}
use lib.ListN.{length, get_or}
use Rattle.tree.specs.Preorder.{preorder_number, size}
use Rattle.tree.specs.Labels.{inlabel, topmost}
use Rattle.tree.specs.Ready.{Columns}
use Rattle.tree.proofs.Columns.{column-read, columns-fewer}
use Rattle.tree.proofs.Sizes.{preorder-pos, preorder-most}
use Rattle.tree.proofs.Inlabels.{inlabel-formula}
use Rattle.tree.proofs.Paths.{inlabel-low, inlabel-most-n}
use Rattle.preorder.proofs.Numbering.{interval-ends}

-- PREORDER of v
pub record Number (s label : List ℕ) (v : ℕ) : Type 0 where
  pub is : get_or label v 0 ≡ preorder_number s v
  pub pos : 0 < preorder_number s v
  pub most : preorder_number s v ≤ length s

-- INLABEL of v
pub record Labelled (s label : List ℕ) (v : ℕ) : Type 0 where
  pub is : get_or label (3 * length s + v) 0 ≡ inlabel s v
  pub pos : 0 < inlabel s v
  pub most : inlabel s v ≤ length s

module _ {s label before : List ℕ} {v : ℕ} (h : v < length s) where
  pub number : Columns s label before 1 → Number s label v
  number cs = record {
    is = column-read cs 0 v v (lit< tt) (lit< tt) h (omega arith);
    pos = preorder-pos s v;
    most = preorder-most cs.ready.tree v h;
  }

  pub labelled : Columns s label before 4 → Labelled s label v
  labelled cs = record {
    is = column-read cs 3 v _ (lit< tt) (lit< tt) h refl;
    pos = lt_of_lt_of_le (preorder-pos s v) (inlabel-low cs.ready.tree v h);
    most = inlabel-most-n cs.ready.tree v h;
  }

  -- ---- the interval of v

  long : Columns s label before 2 → get_or label (length s + v) 0 ≡ size s v
  long cs = column-read cs 1 v _ (lit< tt) (lit< tt) h (omega arith)

  -- it begins above 0 and ends by n
  pub interval-fits : Columns s label before 2 → (0 < get_or label v 0) × (get_or label v 0 + get_or label (length s + v) 0 ≤ 65535)
  interval-fits cs =
      let t = cs.ready.tree in
      let small = cs.ready.small in
      let n = number (columns-fewer (omega arith) cs) in
      let l = long cs in
      let end = interval-ends t h in
      (omega arith, omega arith)

  -- its number with most rightmost zero bits is the INLABEL
  pub interval-inlabel : Columns s label before 2 → topmost (get_or label v 0) (get_or label (length s + v) 0) ≡ inlabel s v
  interval-inlabel cs = rw ((number (columns-fewer (omega arith) cs)).is, long cs) (sym (inlabel-formula cs.ready.tree v h))

-- LEVEL and ASCENDANT: what the root has, and what each step adds.
-- Assumes nothing.
use Prim.Native.Nat.{ℕ, ◌+◌, ◌^◌, ◌≤◌, ◌<◌}
use native.Mathlib.Nat.{add-zero, pow-suc}
use native.Mathlib.Omega.{arith}
use mathlib.Core.Path.{◌≡◌, refl, sym}
use mathlib.Core.Bool.{Bool, true, false, cond}
use mathlib.Core.Logic.{◌≢◌}
use mathlib.Core.List.{List}
use lib.Dec.{eqb, lit<}
use lib.ListN.{length}
use Rattle.bits.specs.Bits.{log2, lowest_one}
use Rattle.bits.proofs.Log.{log2-low}
use Rattle.tree.specs.Tree.{parent, root_of, level}
use Rattle.tree.specs.Labels.{inlabel, ascendant}
use Rattle.tree.specs.Ready.{Ready, Columns}
use Rattle.tree.proofs.Trees.{root-found, level-root, level-parent, level-below}
use Rattle.labels.specs.Steps.{cell_in, StepLaws, level_step, ascendant_step}
use Rattle.tree.proofs.Paths.{ascendant-root, ascendant_step_lem, ascendant-below}
use Rattle.tree.proofs.Columns.{column-read}

-- a bit that is added or not: the choice may be made after it is added
add-chosen : (b : Bool) (x y : ℕ) → x + cond b 0 y ≡ cond b x (x + y)
add-chosen true x y = add-zero x
add-chosen false x y = refl

-- 2^l, l = log n, fits a cell
power-fits : {s work : List ℕ} → Ready s work → 2 ^ log2 (length s) ≤ 16384
power-fits {s} r =
    let some = r.tree.root-inside in
    let small = r.small in
    let low = log2-low (length s) (omega arith) in
    omega arith

level-root-is : {s label work : List ℕ} → Columns s label work 2 → 0 ≡ level s (root_of s)
level-root-is cs = let t = cs.ready.tree in rw (← root-found t) (sym (level-root t))

level-rises : {s label work : List ℕ} → Columns s label work 2 → (v : ℕ) → v < length s → parent s v ≢ v → level s v ≡ level s (parent s v) + 1
level-rises cs v h q = let up = level-parent cs.ready.tree v h q in omega arith

level-fits : {s label work : List ℕ} → Columns s label work 2 → (v : ℕ) → v < length s → level s v < 65536
level-fits cs v h =
    let low = level-below cs.ready.tree v h in
    let small = cs.ready.small in
    omega arith

pub level_laws : StepLaws 2 (λ n. 0) (λ s label. level_step)
level_laws = record { some = lit< tt; column = lit< tt; root = level-root-is; rises = level-rises; fits = level-fits }

ascendant-root-is : {s label work : List ℕ} → Columns s label work 4 → 2 ^ log2 (length s) ≡ ascendant s (root_of s)
ascendant-root-is cs = let t = cs.ready.tree in rw (← root-found t) (sym (ascendant-root t))

ascendant-rises : {s label work : List ℕ} → Columns s label work 4 → (v : ℕ) → v < length s → parent s v ≢ v
    → ascendant s v ≡ ascendant s (parent s v) + ascendant_step s label v
ascendant-rises {s} {label} cs v h q =
    let t = cs.ready.tree in
    let own : (u : ℕ) → u < length s → cell_in s label 3 u ≡ inlabel s u = λ u b. column-read cs 3 u _ (lit< tt) (lit< tt) b refl in
    rw (own v h, own (parent s v) (t.inside v h), ascendant_step_lem t v h q)
    (sym (add-chosen (eqb (inlabel s v) (inlabel s (parent s v))) (ascendant s (parent s v)) (lowest_one (inlabel s v))))

ascendant-fits : {s label work : List ℕ} → Columns s label work 4 → (v : ℕ) → v < length s → ascendant s v < 65536
ascendant-fits {s} cs v h =
    let most = ascendant-below cs.ready.tree v h in
    let low = power-fits cs.ready in
    let twice = pow-suc 2 (log2 (length s)) in
    omega arith

pub ascendant_laws : StepLaws 4 (λ n. 2 ^ log2 n) ascendant_step
ascendant_laws = record { some = lit< tt; column = lit< tt; root = ascendant-root-is; rises = ascendant-rises; fits = ascendant-fits }

-- `release` meets its contract. The loop's invariant: what is left of recovery is its updates from file f on. The loop is left before a
-- turn or in the last one, so what holds after it is said once, by `ended`.
use Rattle.std.proofs.Common.{arith, ◌≡◌, ◌+◌, length}
use Rattle.volume.specs.Volumes.{view}
use Rattle.recovery.proofs.ReleaseLaws.{Turn, turn_start, turn_formed, turn_file, turn_cut, turn_more, turn_skip, turn_end}
use Rattle.recovery.proofs.release.release.Goals.{Left-loop-f, else-loop-f-test, then-loop-f-test+else-f-files, then-holder-k+in_ok-run, else-holder-k}
use Rattle.recovery.proofs.release.release.Goals as goal

pub loop-f-init : goal.loop-f-init
loop-f-init c = turn_start c.requires.0

pub invariant_of-file : goal.invariant_of-file
invariant_of-file c = record { formed = (turn_formed c.requires.1 c.loop-f.invariant).0.tabled }

pub file-x-requires : goal.file-x-requires
file-x-requires c = turn_file c.requires.1 c.loop-f.invariant (omega arith)

pub free_file-requires : goal.free_file-requires
free_file-requires c =
    let formed = turn_formed c.requires.1 c.loop-f.invariant in
    (formed.0, formed.1, turn_file c.requires.1 c.loop-f.invariant (omega arith), cc)

pub returns-in_err-run-clause-updates_made : goal.returns-in_err-run-clause-updates_made
returns-in_err-run-clause-updates_made c = turn_cut c.requires.1 c.loop-f.invariant (omega arith) c.from_residual.ensures.1 c.in_err-run.ensures

pub loop-f-preserved : goal.loop-f-preserved
loop-f-preserved c = elim c.if-holder-k.branch [
  | then-holder-k+in_ok-run w ↦ rw (w.v-is, w.run-is) (turn_more c.requires.1 c.loop-f.invariant (omega arith) w.in_ok-run.ensures)
  | else-holder-k w ↦ rw (w.v-is, w.run-is) (turn_skip c.requires.1 c.loop-f.invariant (omega arith) (λ x. w.if-holder-k.false (cc)))
]

ended : (c : Left-loop-f) → Turn c.args.v.now c.args.run c.args.redo c.args.k c.loop-f-test.v c.loop-f-test.run (length (view c.args.v.now).table.files + 1)
ended c = elim c.loop-f-test.branch [
  | else-loop-f-test w ↦
      let e : c.loop-f.f ≡ length (view c.args.v.now).table.files + 1 = omega arith in
      rw (w.v-is, w.run-is, ← e) c.loop-f.invariant
  | then-loop-f-test+else-f-files w ↦
      let e : c.loop-f.f ≡ length (view c.args.v.now).table.files = omega arith in
      elim w.if-holder-k.branch [
        | then-holder-k+in_ok-run x ↦ rw (w.v-is, w.run-is, x.v-is, x.run-is, ← e) (turn_more c.requires.1 c.loop-f.invariant (omega arith) x.in_ok-run.ensures)
        | else-holder-k x ↦ rw (w.v-is, w.run-is, x.v-is, x.run-is, ← e) (turn_skip c.requires.1 c.loop-f.invariant (omega arith) (λ y. x.if-holder-k.false (cc)))
      ]
]

pub put_empty_record-requires : goal.put_empty_record-requires
put_empty_record-requires c = turn_formed c.requires.1 (ended (goal.at.put_empty_record-requires c).Left-loop-f)

pub returns : goal.returns
returns c =
    let end = turn_end c.requires.1 (ended (goal.at.returns c).Left-loop-f) (omega arith) c.put_empty_record.ensures in
    record { updates_made = end.0; all_made = end.1 }

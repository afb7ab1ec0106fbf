use Rattle.std.proofs.Common.{◌≡◌, arith, drop, length, length-take, refl, take}
use Rattle.gob_read.proofs.Machine.Runs.{prefix_taken, open_in, raw_can_take, raw_some, raw_stepped, take_and_drop}
use Rattle.gob_read.proofs.Machine.Nils.{raw_clear}
use Rattle.gob_read.proofs.run.Run.take_raw_bytes.Goals as goal

pub take_raw_bytes-requires : goal.take_raw_bytes-requires
take_raw_bytes-requires g c =
    let b = c.requires.before in let r = b.room in
    raw_can_take (take c.min-used.result c.args.rest.now) b.expected (open_in c.requires)
    (omega (arith, length-take c.min-used.result c.args.rest.now))
    (omega (arith, length-take c.min-used.result c.args.rest.now))

pub returns-then-used-left-clause-taken : goal.returns-then-used-left-clause-taken
returns-then-used-left-clause-taken g c =
    let s = c.args.rest.now in let n = c.min-used.result in let b = c.requires.before in
    let few : length (take n s) ≡ n = omega (arith, length-take n s) in
    let l = raw_some b.expected (open_in c.requires) in let k = b.some in
    λ T. prefix_taken (take n s) (drop n s) (take_and_drop s n) (omega arith) (omega arith) (record {
      more = record { taken = omega arith; length_is = refl; depth_is = refl };
      steps = raw_stepped c.args.left (take n s) b.expected (omega arith) refl (omega arith) refl
          (λ _. omega arith) (λ k. absurd (omega arith)) c.in_ok-moved.ensures;
    })

pub returns-else-used-left-clause-taken : goal.returns-else-used-left-clause-taken
returns-else-used-left-clause-taken g c =
    let s = c.args.rest.now in let n = c.min-used.result in let b = c.requires.before in
    let few : length (take n s) ≡ n = omega (arith, length-take n s) in
    let l = raw_some b.expected (open_in c.requires) in let k = b.some in
    λ T. prefix_taken (take n s) (drop n s) (take_and_drop s n) (omega arith) (omega arith) (record {
      more = record { taken = omega arith; length_is = refl; depth_is = refl };
      steps = raw_stepped c.args.left (take n s) b.expected (omega arith) refl (omega arith) refl
          (λ k. absurd (c.if-used-left.false (omega arith))) (λ _. refl) c.in_ok-moved.ensures;
    })

pub returns-else-used-left-clause-clear : goal.returns-else-used-left-clause-clear
returns-else-used-left-clause-clear g c =
    let s = c.args.rest.now in let n = c.min-used.result in let b = c.requires.before in
    λ u e. raw_clear u c.requires (let f : length (take n s) ≡ n = omega (arith, length-take n s) in let k =
    c.if-used-left.false in omega arith) c.in_ok-moved.ensures e

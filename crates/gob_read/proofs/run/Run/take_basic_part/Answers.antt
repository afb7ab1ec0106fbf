use Rattle.std.proofs.Common.{ℕ, ◌+◌, ◌-◌, ◌≤◌, ◌∙◌, List, take, drop, arith, refl, ap, length, length-take}
use Rattle.std.specs.Prelude.{slice_get}
use Rattle.gob_read.specs.declared.next.Next.TheVariants.{Number}
use Rattle.gob_read.specs.Machine.BasicParts.{not_taken}
use Rattle.gob_read.proofs.Machine.ToldLaws.{some}
use Rattle.gob_read.proofs.Machine.BasicPartSteps.{can_tell_basic, basic_takes, untold, told_as, told_within, rest_some}
use Rattle.gob_read.proofs.Machine.BasicPartSteps.{told_stack, frame_some}
use Rattle.gob_read.proofs.run.Run.take_basic_part.Goals as goal

within_rest : {used more : ℕ} (rest : List ℕ) → used ≤ length rest
    → more ≤ length (take (length rest - used) (drop used rest)) → used + more ≤ length rest
within_rest {used = used} rest u l = omega (arith, rest_some rest used)

pub returns-in_default : goal.returns-in_default
returns-in_default g c = not_taken refl

pub tell_basic-requires : goal.tell_basic-requires
tell_basic-requires g c = can_tell_basic c.args.rest.now c.requires.before.expected c.requires.before.has_read
    c.requires.fresh (let r = c.requires.before.room in omega arith) c.requires.kind_ c.in-Whole.ensures.0
    c.in-Whole.ensures.1

pub returns-in_default-2 : goal.returns-in_default-2
returns-in_default-2 g c =
    let r = c.args.self.now in
    not_taken (ap (λ s. record {
      state = s;
      number = r.number;
      start = r.start;
      taken = r.taken;
      length = r.length;
      depth = r.depth;
    }) (untold c.in_default-2.is c.in_ok-more.ensures))

pub replace-requires : goal.replace-requires
replace-requires g c = frame_some _ (ap (λ fs. slice_get fs 0) (told_stack (told_as c.in-Some.is c.in_ok-more.ensures))
    ∙ c.requires.inside.innermost)

pub overflow_add-self : goal.overflow_add-self
overflow_add-self g c =
    let t = told_within (told_as c.in-Some.is c.in_ok-more.ensures) in
    let w = within_rest c.args.rest.now c.in-Whole.ensures.0 t in
    let r = c.requires.before.room in let f = c.fits-self in omega arith

pub overflow_add-self-2 : goal.overflow_add-self-2
overflow_add-self-2 g c =
    let t = told_within (told_as c.in-Some.is c.in_ok-more.ensures) in
    let w = within_rest c.args.rest.now c.in-Whole.ensures.0 t in
    let r = c.requires.before.room in let f = c.fits-self in omega arith

pub returns : goal.returns
returns g c =
    basic_takes c.args.rest.now c.requires.before.expected c.requires.inside c.requires.before.has_read c.requires.fresh
    c.requires.before.room c.requires.kind_ c.in-Whole.ensures.0
    (omega (arith, some c.in-Whole.ensures.1, length-take c.in-Whole.used c.args.rest.now)) c.in-Whole.ensures.1
    (told_as c.in-Some.is c.in_ok-more.ensures) refl c.replace.ensures (ap Number c.item.ensures)
    (record { taken = refl; start = refl; number = refl; length_is = refl; depth_is = refl })

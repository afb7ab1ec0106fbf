-- Name by name more is appended.
use Rattle.std.proofs.Common.{◌++◌, ap, sym, subst, take}
use Rattle.gob_source.specs.Machine.{KnowsSeen}
use Rattle.gob_source.specs.Program.{registration_text, registrations_text}
use Rattle.gob_source.specs.Registered.{naming, namings}
use Rattle.gob_source.proofs.RegisteredLaws.{namings_more, namings_push}
use Rattle.gob_source.proofs.SourceLaws.{appended_more}
use Rattle.gob_source.proofs.registrations.push_registrations.Goals as goal

pub loop-one-preserved : goal.loop-one-preserved
loop-one-preserved g c =
    let T = g.S.Shapes.table c.args.types.now.shapes.now in
    let ts = c.args.types.now.ids.now in
    let i = c.loop-one.one-index in
    let all = c.args.registered.now in
    let r = c.one-item.result in
    let told = c.in_ok-push_registration.ensures (namings (take i all)) c.loop-one.invariant.known in
    record {
      text =
          appended_more (λ seen r. registration_text T ts (namings seen) (naming r))
          (λ seen rs. registrations_text T ts (namings seen) (namings rs))
          (λ seen r rs. ap (λ l. registration_text T ts (namings seen) (naming r)
          ++ registrations_text T ts l (namings rs)) (sym (namings_push seen r)))
          all i r c.loop-one.out.items c.push_registration.new.out.items _ c.one-item.is c.loop-one-test.true
          c.loop-one.invariant.text told.0;
      known =
          subst (λ ps. KnowsSeen c.push_registration.new.names c.push_registration.new.ids.keys ps)
          (sym (namings_more all i r c.one-item.is c.loop-one-test.true)) told.1;
    }

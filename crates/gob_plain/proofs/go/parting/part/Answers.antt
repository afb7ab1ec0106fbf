-- What fills the nil goes to the texts or to what is held.
use Rattle.std.proofs.Common.{◌∷◌, [], Some, None, append-nil, refl, subst, sym}
use Rattle.std.proofs.lemmas.Bool.Decides.{when_true, when_false}
use Rattle.gob_plain.specs.Machine.Parting.{IsNoText, IsParted, IsText, nothing_parted, text_parted, value_parted}
use Rattle.gob_plain.proofs.go.parting.part.Goals as goal

pub returns-in_default : goal.returns-in_default
returns-in_default c = (
  None,
  None ∷ [],
  subst (λ x. IsParted x None (None ∷ [])) (sym c.in_default.is) nothing_parted,
  c.in_ok-push.ensures.items,
  c.in_ok-push-2.ensures.items,
)

pub returns-in_ok-push-3 : goal.returns-in_ok-push-3
returns-in_ok-push-3 c =
    let held = c.in-Some.held in
    let text = when_true (IsText held) (IsNoText held) c.if-branch.true c.in_ok-is_text.ensures in (
      Some (record { name = None; text = c.own_text-text.result }),
      [],
      subst (λ x. IsParted x (Some (record { name = None; text = c.own_text-text.result })) []) (sym c.in-Some.is)
          (text_parted text refl c.own_text-text.ensures),
      c.in_ok-push-3.ensures.items,
      sym (append-nil c.args.parted.now.held.items),
    )

pub returns-in_ok-push-5 : goal.returns-in_ok-push-5
returns-in_ok-push-5 c =
    let held = c.in-Some.held in
    let none = when_false (IsText held) (IsNoText held) c.if-branch.false c.in_ok-is_text.ensures in (
      None,
      Some held ∷ [],
      subst (λ x. IsParted x None (Some held ∷ [])) (sym c.in-Some.is) (value_parted none),
      c.in_ok-push-4.ensures.items,
      c.in_ok-push-5.ensures.items,
    )

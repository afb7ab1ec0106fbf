use Rattle.std.proofs.Common.{◌≡◌, ◌∙◌, ℕ, List, Option, sym, ap, subst}
use Rattle.std.specs.Prelude.{is_some}
use Rattle.std.proofs.lemmas.Bool.{false≢true}
use Rattle.std.proofs.lemmas.Result.{on_ok_weaker, IfOk-from_err}
use Rattle.gob_types.specs.declared.id.TypeId.{TypeId}
use Rattle.gob_types.specs.declared.kind.Kind.{Kind}
use Rattle.gob_value.proofs.PublicLaws.{not_true}
use Rattle.gob_tape.specs.declared.node.Content.{Content}
use Rattle.gob_tape.specs.declared.node.Node.{Node}
use Rattle.gob_tape.specs.declared.tidying.Open.{Open}
use Rattle.gob_tape.specs.Machine.State.{State}
use Rattle.gob_tape.specs.Machine.Received.{TapeGoesOn}
use Rattle.gob_tape.specs.Machine.Tidying.{name_told, content_told, IsDroppedContent, IsKeptPart, IsPooled, HasOpenEnd}
use Rattle.gob_tape.specs.Machine.Tidying.{entered_open, PartHasEvents}
use Rattle.gob_tape.proofs.TidyingLaws.{goes_then}
use Rattle.gob_tape.proofs.tidying.tell_part.Goals as goal
use Rattle.gob_tape.proofs.tidying.tell_part.Goals.{else-is_some-via-then-is_some+else-is_dropped}
use Rattle.gob_tape.proofs.tidying.tell_part.Goals.{else-is_some-via-else-is_some}

-- a part that stays was told as far as its beginning
stays : {i : ℕ} {x : Node} {k : Kind} {t : TypeId} {pool : List ℕ} {before after : List Open} {old mid new : State}
    {f : Option ℕ} {begun opened : Content} → IsKeptPart x.field k x.content → f ≡ x.field
    → TapeGoesOn old mid (name_told f) → begun ≡ x.content
    → (IsPooled pool begun → TapeGoesOn mid new (content_told pool begun)) → opened ≡ x.content
    → (HasOpenEnd i opened → after ≡ entered_open i opened k t before) → PartHasEvents i x k t pool before after old new
stays {i = i} {x = x} {k = k} {t = t} {pool = pool} {before = before} {after = after} {old = old} {mid = mid}
    {new = new} kept field named begun begin opened enter = record {
      drops = λ f e d. absurd (kept f e d);
      keeps = λ h p. record {
        opens = subst (λ b. HasOpenEnd i b → after ≡ entered_open i b k t before) opened enter;
        stands =
            goes_then {a = old} {b = mid} {c = new} {xs = name_told x.field} {ys = content_told pool x.content}
            (subst (λ f. TapeGoesOn old mid (name_told f)) field named)
            (subst (λ b. IsPooled pool b → TapeGoesOn mid new (content_told pool b)) begun begin p);
      };
    }

pub returns-in_err-begin : goal.returns-in_err-begin
returns-in_err-begin c = IfOk-from_err c.from_residual.result _ c.from_residual.ensures.0

pub returns : goal.returns
returns c =
    let kept : IsKeptPart c.args.node.field c.args.kind.now c.args.node.content = λ f e d. elim c.else-is_some.branch [
      | else-is_some-via-then-is_some+else-is_dropped w ↦
          not_true w.if-is_dropped.false w.is_dropped.ensures
          (subst (IsDroppedContent c.args.kind.now) (sym w.content.ensures) d)
      | else-is_some-via-else-is_some w ↦
          false≢true (sym w.if-is_some.false ∙ c.is_some.ensures ∙ ap is_some (c.field.ensures ∙ e))
    ] in
    on_ok_weaker c.enter.result
    (λ enter.
    stays kept c.kept_field.ensures c.name.ensures c.content-2.ensures c.in_ok-begin.ensures c.content-3.ensures enter)
    c.enter.ensures

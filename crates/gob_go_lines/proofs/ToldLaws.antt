-- What tokens tell of a value is what they say.
use Rattle.std.proofs.Common.{◌≡◌, ℕ, ◌^◌, ◌<◌, Bool, List, [], ap, subst, ◌∙◌}
use Rattle.json.specs.Token.{Token}
use Rattle.serde_json.specs.Data.{object}
use Rattle.gob_types.specs.declared.id.TypeId.{TypeId}
use Rattle.gob_types.specs.Ready.{IsReady}
use Rattle.gob_types.specs.Table.{Table}
use Rattle.gob_stream.specs.Bounds.{Bounds}
use Rattle.gob_filled.specs.Filled.{SpellsFilled}
use Rattle.gob_lines.specs.Numbers.{natural_number}
use Rattle.gob_lines.specs.Reads.{Reads}
use Rattle.gob_go_lines.specs.Lines.{SaysPut, TellsFilled}
use Rattle.gob_go_lines.proofs.FilledLaws.{value_says}
use Rattle.gob_go_lines.proofs.TextsLaws.{natural_texts, texts_of, top_texts, typed_texts}

-- whichever bytes spell the value
pub spelled_says : {base : Table} {L : Bounds} {T U : Table} {H : Bool} {limit : ℕ} {ts : List Token} {id : TypeId}
    {body ls : List ℕ} → IsReady T id → id.0 < 2 ^ 64 → (h : TellsFilled T H id limit body ts [])
    → SpellsFilled base L T id limit h.value ls U → (U ≡ T) × SaysPut T H limit ts id ls
spelled_says {T = T} {H = H} {ts = ts} {id = id} ready small h spelled =
    let value = value_says H spelled h.defines h.holds h.shows in
    let outer = texts_of h.written in
    let inside = typed_texts outer.each in (
      value.0,
      record {
        ready = ready;
        small = small;
        number = inside.first;
        typed = natural_texts natural_number inside.typed;
        json = inside.second;
        says = top_texts value.1 inside.says;
        said = subst (λ d. Reads d ts []) (outer.whole ∙ ap object inside.is) h.reads;
      },
    )

pub told_says : {T : Table} {H : Bool} {limit : ℕ} {ts : List Token} {id : TypeId} {body : List ℕ} (L : Bounds)
    → IsReady T id → id.0 < 2 ^ 64 → TellsFilled T H id limit body ts [] → SaysPut T H limit ts id body
told_says {T = T} L ready small h = (spelled_says ready small h (h.spelled T L)).1

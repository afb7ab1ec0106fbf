-- A value in which no interface holds another is one whose interfaces may hold others.
use Rattle.std.proofs.Common.{ℕ, List, Bool, Option, Some, None, Result, Ok, Err, IfSome}
use Rattle.std.specs.Prelude.{IfOk}
use Rattle.gob_num.specs.Unsigned.{AreBytes}
use Rattle.gob_types.specs.Table.{Table}
use Rattle.gob_types.specs.declared.id.TypeId.{TypeId}
use Rattle.gob_value.specs.Whole.{IsWhole}
use Rattle.gob_filled.specs.Filled.{filled, no_filling}
use Rattle.gob_filled.proofs.Strict.{contained}
use Rattle.gob_go.specs.Whole.{IsFilledWhole}
use Rattle.gob_plain.specs.declared.style.Style.{Style}
use Rattle.gob_plain.specs.BodyText.{IsBodyText}
use Rattle.gob_plain.specs.FilledText.{IsFilledText}
use Rattle.gob_plain.proofs.HeldPlainLaws.{says_unfilled}

abbrev pub whole_filled : {T : Table} {t : TypeId} {limit : ℕ} {bytes : List ℕ} → AreBytes bytes
    → IsWhole T t limit bytes → IsFilledWhole T t limit bytes
whole_filled o w =
    record { value = filled w.value no_filling; spelled = λ base L. contained w.spelled o w.within }

pub unfilled_body : (tagged : Bool) (style : Style) (T : Table) (t : TypeId) (limit : ℕ) (bytes text : List ℕ)
    → AreBytes bytes → IsBodyText style T t limit bytes text → IsFilledText tagged style T t limit bytes text
unfilled_body tagged style T t limit bytes text o (w, j, says, is, read) =
    record {
      are_bytes = o;
      whole = whole_filled o w;
      json = j;
      says = says_unfilled tagged style T t w.value bytes j w.spelled says;
      text_is = is;
      read = read;
    }

pub unfilled_text : {A E : Type 0} (tagged : Bool) (style : Style) (T : Table) (t : TypeId) (limit : ℕ)
    (bytes : List ℕ) (text : A → List ℕ) → AreBytes bytes → (r : Result (Option A) E)
    → IfOk r (λ found. IfSome found (λ x. IsBodyText style T t limit bytes (text x)))
    → IfOk r (λ found. IfSome found (λ x. IsFilledText tagged style T t limit bytes (text x)))
unfilled_text tagged style T t limit bytes text o (Err e) h = tt
unfilled_text tagged style T t limit bytes text o (Ok None) h = tt
unfilled_text tagged style T t limit bytes text o (Ok (Some x)) h =
    unfilled_body tagged style T t limit bytes (text x) o h

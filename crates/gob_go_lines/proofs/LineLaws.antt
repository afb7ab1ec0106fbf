-- The line of a value, part by part.
use Rattle.std.proofs.Common.{◌≡◌, Bool, ℕ, ◌<◌, ◌^◌, List, [], ◌∷◌, ◌++◌, Result, Ok, Err, codes, sym, ap, subst, ◌∙◌}
use Rattle.std.proofs.Common.{append_assoc}
use Rattle.std.specs.Prelude.{IsErrAnd}
use Rattle.json.specs.Token.{Token}
use Rattle.serde_json.specs.Data.{Data}
use Rattle.gob_num.specs.Unsigned.{AreBytes}
use Rattle.gob_types.specs.declared.id.TypeId.{TypeId}
use Rattle.gob_types.specs.declared.kind.Shape.{Shape}
use Rattle.gob_types.specs.Table.{Table}
use Rattle.gob_lines.specs.Numbers.{IsNatural, ReadsSome}
use Rattle.gob_lines.specs.Reads.{IsWrong}
use Rattle.gob_lines.specs.declared.fault.LineFault.{LineFault}
use Rattle.gob_lines.proofs.PartLaws.{natural_once}
use Rattle.gob_lines.proofs.PutLaws.{numbered}
use Rattle.gob_lines.proofs.ReadLaws.{two_members}
use Rattle.gob_lines.proofs.UniqueLaws.{J, behind}
use Rattle.gob_go_lines.specs.Says.{SaysTop}
use Rattle.gob_go_lines.specs.Lines.{LeavesNone, PutsSaid, ReadsDefinition, ReadsPut, SaysPut, TellsFilled}
use Rattle.gob_go_lines.specs.declared.line.GoLine.{GoLine}
use Rattle.gob_go_lines.proofs.BytesLaws.{top_bytes}
use Rattle.gob_go_lines.proofs.SaidLaws.{filled_told}

-- a value was read, with its type in front and the end of the object behind
pub put_told : {T : Table} {H : Bool} {limit : ℕ} {body : List ℕ} (n : ℕ) (m m0 m1 m2 m3 m4 now : List Token)
    → m ≡ Token.begin_object ∷ m0 → m0 ≡ Token.key (codes "type") ∷ m1 → ReadsSome (IsNatural n) m1 m2
    → m2 ≡ Token.key (codes "value") ∷ m3 → PutsSaid (SaysTop T H (numbered n) limit) m3 m4 [] body
    → m4 ≡ Token.end_object ∷ now → TellsFilled T H (numbered n) limit body m now
put_told {T = T} {H = H} {limit = limit} {body = body} n m m0 m1 m2 m3 m4 now object named number key p end =
    filled_told (subst AreBytes (sym p.appended) (top_bytes p.says)) number.is
    (subst (λ b. SaysTop T H (numbered n) limit p.json b) (sym p.appended) p.says)
    (two_members (codes "type") (codes "value") (J number.json) (J p.json) m m0 m1 m2 m3 m4 now object named
    number.reads key p.reads end)

-- the type that was read is that of the value, and the value stands behind it
pub record ValueStands (T : Table) (H : Bool) (limit n : ℕ) (id : TypeId) (body : List ℕ) (ts : List Token)
    : Type 0 where
  pub same : numbered n ≡ id
  pub json : Data
  pub says : SaysTop T H (numbered n) limit json body
  pub stand : ts ≡ Token.key (codes "value") ∷ (J json ++ Token.end_object ∷ [])

pub put_front : {T : Table} {H : Bool} {limit : ℕ} {id : TypeId} {body : List ℕ} {ts m0 m1 m2 : List Token} (n : ℕ)
    → SaysPut T H limit ts id body → ts ≡ Token.begin_object ∷ m0 → m0 ≡ Token.key (codes "type") ∷ m1 → n < 2 ^ 64
    → ReadsSome (IsNatural n) m1 m2 → ValueStands T H limit n id body m2
put_front {T = T} {H = H} {limit = limit} {id = id} {body = body} {m1 = m1} {m2 = m2} n says object named small got =
    let last = Token.key (codes "value") ∷ (J says.json ++ Token.end_object ∷ []) in
    let r = natural_once m1 m2 (last ++ []) small says.small got.is got.reads says.typed
    (ap behind (sym named ∙ ap behind (sym object ∙ says.said)) ∙ append_assoc (J says.number) last []) in
    let same : numbered n ≡ id = ap numbered r.0 in
    record {
      same = same;
      json = says.json;
      says = subst (λ (t : TypeId). SaysTop T H t limit says.json body) (sym same) says.says;
      stand = r.1 ∙ ap (λ (l : List Token). Token.key (codes "value") ∷ l)
          (append_assoc (J says.json) (Token.end_object ∷ []) []);
    }

pub fault_line : (r : Result GoLine LineFault) (e : LineFault) (id : TypeId) (b : List ℕ) (new : List Token)
    → IsErrAnd r (λ x. x ≡ e) → ¬ IsWrong e → ReadsPut r id b × LeavesNone r new
fault_line (Ok l) e id b new is h = absurd is
fault_line (Err x) e id b new is h = (λ w. h (subst (λ (y : LineFault). IsWrong y) is w), tt)

pub fault_definition : (r : Result GoLine LineFault) (e : LineFault) (id : TypeId) (s : Shape) (new : List Token)
    → IsErrAnd r (λ x. x ≡ e) → ¬ IsWrong e → ReadsDefinition r id s × LeavesNone r new
fault_definition (Ok l) e id s new is h = absurd is
fault_definition (Err x) e id s new is h = (λ w. h (subst (λ (y : LineFault). IsWrong y) is w), tt)

pub nothing_left : {now ts : List Token} {t : Token} → now ≡ [] → now ≡ t ∷ ts → ⊥
nothing_left none some = let both = sym none ∙ some in absurd (cc (both))

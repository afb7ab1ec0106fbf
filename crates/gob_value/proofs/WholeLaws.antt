-- A body that is one whole value.
use Rattle.std.proofs.Common.{◌≡◌, ℕ, ◌+◌, ◌-◌, ◌<◌, ◌≤◌, List, [], ◌∷◌, ◌++◌, length, Option, Some, IfSome, take, drop}
use Rattle.std.proofs.Common.{arith, refl}
use Rattle.std.proofs.Common.{sym, ap, ◌∙◌, subst, Bool, true, false, get_or, length-append, length-drop}
use Rattle.std.specs.Prelude.{slice_get}
use Rattle.std.proofs.Math.Seq.{drop-length}
use Rattle.std.proofs.lemmas.List.{append-nil, drop_more, take_at}
use Rattle.gob_types.specs.declared.id.TypeId.{TypeId}
use Rattle.gob_types.specs.declared.kind.Fields as declared
use Rattle.gob_types.specs.declared.kind.Kind.{Kind}
use Rattle.gob_types.specs.declared.kind.Kind.TheVariants as kind
use Rattle.gob_types.specs.declared.kind.Shape.{Shape}
use Rattle.gob_types.specs.Table.{Table, shape_of}
use Rattle.gob_value.specs.Spelling.{SpellsAs, of_type}
use Rattle.gob_value.specs.Top.{IsStruct, SpellsTop, at_once, tagged}
use Rattle.gob_value.specs.Tidy.{of_type as type_tidy}
use Rattle.gob_value.specs.Whole.{IsWhole, IsTidyWhole, IsWholeBetween}
use Rattle.gob_value.specs.Machine.Begins.{IsWholeSo, HoldsBetween, BeginsKind, BeginsTop}

a_struct : (k : Kind) (fields : declared.Fields) → k ≡ kind.Struct fields → IsStruct k
a_struct k fields e = rw e tt

no_struct : (k : Kind) → ((fields : declared.Fields) → ¬ (k ≡ kind.Struct fields)) → ¬ IsStruct k
no_struct (kind.Struct fields) n = λ i. n fields refl
no_struct _ n = λ i. i

pub first_of : (body : List ℕ) (b : ℕ) → slice_get body 0 ≡ Some b → body ≡ b ∷ drop 1 body
first_of [] b e = cc
first_of (x ∷ body) b e = let same : x ≡ b = cc in ap (λ y. y ∷ body) same

-- what is no deeper than a limit is no deeper than a greater one
pub whole_within : {T : Table} {tidy : Bool} {t : TypeId} {a b : ℕ} {body : List ℕ} → a ≤ b
    → IsWholeSo T tidy t a body → IsWholeSo T tidy t b body
whole_within l w =
    let d = w.within in record { value = w.value; spelled = w.spelled; within = omega arith; tidied = w.tidied }

-- what was asked for
pub whole_as : {T : Table} {t : TypeId} {limit : ℕ} {body : List ℕ} → IsWholeSo T false t limit body
    → IsWhole T t limit body
whole_as w = record { value = w.value; spelled = w.spelled; within = w.within }

pub tidy_whole : {T : Table} {t : TypeId} {limit : ℕ} {body : List ℕ} → IsWholeSo T true t limit body
    → IsTidyWhole T t limit body
tidy_whole w = record { value = w.value; spelled = w.spelled; within = w.within; tidied = w.tidied refl }

-- what is said of an answer that is there
pub given : {A : Type 0} (P : A → Type 0) {r : Option A} {x : A} → r ≡ Some x → IfSome r P → P x
given P e p = subst (λ r. IfSome r P) e p

-- ---- behind a tag or without one
module _ {T : Table} {tidy : Bool} {k : Kind} {a b : ℕ} (less : a ≤ b) where
  pub struct_top : (fields : declared.Fields) → k ≡ kind.Struct fields → (x y : List ℕ) → BeginsKind T tidy k a x y
      → BeginsTop T tidy k b x y
  struct_top fields e x y p =
      let w = p.within in
      record {
        value = p.value;
        bytes = p.bytes;
        spelled = λ t s f g. at_once f (a_struct s.kind fields (g ∙ e))
            (of_type f (subst (λ k. SpellsAs T k p.value p.bytes) (sym g) p.spelled));
        within = omega arith;
        tidied = p.tidied;
        whole = p.whole;
      }

  tagged_top : ((fields : declared.Fields) → ¬ (k ≡ kind.Struct fields)) → (x y : List ℕ) → BeginsKind T tidy k a x y
      → BeginsTop T tidy k b (0 ∷ x) y
  tagged_top n x y p =
      let w = p.within in
      record {
        value = p.value;
        bytes = 0 ∷ p.bytes;
        spelled = λ t s f g. tagged f (no_struct s.kind (λ fields h. n fields (sym g ∙ h)))
            (of_type f (subst (λ k. SpellsAs T k p.value p.bytes) (sym g) p.spelled));
        within = omega arith;
        tidied = p.tidied;
        whole = ap (λ r. 0 ∷ r) p.whole;
      }

  pub behind_tag : ((fields : declared.Fields) → ¬ (k ≡ kind.Struct fields)) → (body : List ℕ) (at end : ℕ)
      → at < length body → get_or body at 0 ≡ 0 → HoldsBetween (BeginsKind T tidy k a) body (at + 1) end
      → HoldsBetween (BeginsTop T tidy k b) body at end
  behind_tag n body at end some tag p =
      let first : drop at body ≡ 0 ∷ drop (at + 1) body =
      drop_more body at 0 some ∙ ap (λ b. b ∷ drop (at + 1) body) tag in
      record {
        order = omega (arith, p.order);
        inside = p.inside;
        begins = subst (λ x. BeginsTop T tidy k b x (drop end body)) (sym first)
            (tagged_top n (drop (at + 1) body) (drop end body) p.begins);
      }

-- a value that stands from the first byte up to the end
pub top_whole : {T : Table} {tidy : Bool} {t : TypeId} {s : Shape} {limit : ℕ} {body : List ℕ} (end : ℕ)
    → shape_of T t ≡ Some s → end ≡ length body → HoldsBetween (BeginsTop T tidy s.kind limit) body 0 end
    → IsWholeSo T tidy t limit body
top_whole {T = T} {t = t} {body = body} end f last p =
    let b = p.begins in
    let none : drop end body ≡ [] = ap (λ n. drop n body) last ∙ drop-length body in
    let all : body ≡ b.bytes = b.whole ∙ ap (λ r. b.bytes ++ r) none ∙ append-nil b.bytes in
    record {
      value = b.value;
      spelled = subst (SpellsTop T t b.value) (sym all) (b.spelled t _ f refl);
      within = b.within;
      tidied = λ a. type_tidy f (b.tidied a);
    }

-- the bytes of a value that stands anywhere
pub top_between : {T : Table} {k : Kind} {limit : ℕ} (body : List ℕ) (at end : ℕ)
    → HoldsBetween (BeginsTop T false k limit) body at end → IsWholeBetween T k limit body at end
top_between {T = T} {k = k} {limit = limit} body at end p =
    let b = p.begins in
    let order = p.order in
    let parts : length (drop at body) ≡ length b.bytes + length (drop end body) =
    ap length b.whole ∙ length-append b.bytes (drop end body) in
    let size : length b.bytes ≡ end - at =
    omega (arith, parts, p.inside, length-drop at body, length-drop end body) in
    let same : take (end - at) (drop at body) ≡ b.bytes =
    ap (λ x. take (end - at) x) b.whole ∙ take_at b.bytes (drop end body) (end - at) size in
    record {
      order = order;
      inside = p.inside;
      whole = λ t s f g. record {
        value = b.value;
        spelled = subst (SpellsTop T t b.value) (sym same) (b.spelled t s f g);
        within = b.within;
      };
    }

-- What is kept of a value, renamed, part by part.
use Rattle.std.proofs.Common.{◌≡◌, ℕ, List, [], ◌∷◌, ◌++◌, length, Some, arith, refl, sym, subst, append_assoc}
use Rattle.std.proofs.lemmas.List.{append-nil}
use Rattle.gob_types.specs.declared.id.TypeId.{TypeId}
use Rattle.gob_types.specs.Table.{Table}
use Rattle.gob_filled.specs.Filled.{Definitions, no_definitions, filled, Fillings, no_filling, filling}
use Rattle.gob_filled.specs.Filled as spelled
use Rattle.gob_go.specs.Meaning.{AreFillings, no_fillings, filling_then, IsFilled, is_filled, definitions_of}
use Rattle.gob_go.specs.declared.filled.Definition.{Definition}
use Rattle.gob_go.specs.declared.filled.Filled.{Filled, out-Filled}
use Rattle.gob_go.specs.declared.filled.Filling.{Filling, out-Filling}
use Rattle.gob_go_writer.proofs.ValueSteps.{FirstFilling, first_filling}
use Rattle.gob_join.specs.Renaming.{AreRenamedFillings, none_renamed, one_renamed, IsRenamedValue, of_value}
use Rattle.gob_join.specs.Renaming.{IsRenaming, NewId}
use Rattle.gob_join.specs.Machine.Renamed.{HaveRenamed, RenameFillings, RenamesFilling, RenamesKept}
use Rattle.gob_join.proofs.RenamedLaws.{top_renamed}

-- ---- what fills nils

-- a filling in front of others
in_front : {R : NewId} {U : Table} {place : ℕ} {name : List ℕ} {ds : Definitions} {t : TypeId} {w : spelled.Filled}
    {fs : Fillings} {m : Filling} {made : List Filling}
    → HaveRenamed R U (m ∷ []) (filling place name ds t w no_filling) → HaveRenamed R U made fs
    → HaveRenamed R U (m ∷ made) (filling place name ds t w fs)
in_front {R = R} {U = U} {place = place} {name = name} {ds = ds} {t = t} {w = w} {fs = fs} {m = m} {made = made} a b =
    by a.renamed a.mean
  where
    alike : {p q : ℕ} {s r : List ℕ} {es cs : Definitions} {u v : TypeId} {x y : spelled.Filled} {hs is gs : Fillings}
        → filling p s es u x hs ≡ filling q r cs v y is → filling q r cs v y gs ≡ filling p s es u x gs
    alike e = cc

    by : {gs : Fillings} → AreRenamedFillings R (filling place name ds t w no_filling) gs → AreFillings U (m ∷ []) gs
        → HaveRenamed R U (m ∷ made) (filling place name ds t w fs)
    by (one_renamed {u = u} {x = x} e v rest) h =
        let k = first_filling h in
        record {
          fillings = filling place name no_definitions u x b.fillings;
          renamed = one_renamed e v b.renamed;
          mean = subst (λ fs. AreFillings U (m ∷ made) fs) (alike k.is) (filling_then k.means b.mean);
        }

renames_more : {R : NewId} {f m : Filling} {all made : List Filling} → RenamesFilling R f m
    → RenameFillings R all made → RenameFillings R (f ∷ all) (m ∷ made)
renames_more {R = R} {f = f} {m = m} {all = all} {made = made} one more T U fs r h =
    let k : FirstFilling T f all fs = first_filling h in
    subst (λ fs. HaveRenamed R U (m ∷ made) fs) (sym k.is)
    (in_front (one T U _ r (filling_then k.means no_fillings)) (more T U k.others r k.others_mean))

-- those so far, and those that are left
pub record RenamesSo (R : NewId) (whole left made : List Filling) : Type 0 where
  pub completes : (others : List Filling) → RenameFillings R left others → RenameFillings R whole (made ++ others)

pub none_renamed_yet : (R : NewId) (whole : List Filling) → RenamesSo R whole whole []
none_renamed_yet R whole = record { completes = λ others h. h }

pub one_renamed_more : {R : NewId} {whole left others made made' : List Filling} {f : Filling} (m : Filling)
    → RenamesSo R whole left made → left ≡ f ∷ others → RenamesFilling R f m → made' ≡ made ++ m ∷ []
    → RenamesSo R whole others made'
one_renamed_more {R = R} {whole = whole} {made = made} m s e h n = record {
  completes = λ rest w. subst (λ l. RenameFillings R whole (l ++ rest)) (sym n)
      (subst (λ l. RenameFillings R whole l) (sym (append_assoc made (m ∷ []) rest))
      (s.completes (m ∷ rest) (subst (λ l. RenameFillings R l (m ∷ rest)) (sym e) (renames_more h w))));
}

all_renamed : {R : NewId} {whole left made : List Filling} → RenamesSo R whole left made → length left ≡ 0
    → RenameFillings R whole made
all_renamed {R = R} {whole = whole} {left = left} {made = made} s e =
    subst (λ l. RenameFillings R whole l) (append-nil made) (s.completes [] (nothing left e))
  where
    none : {U : Table} {fs : Fillings} {T : Table} → AreFillings T [] fs → HaveRenamed R U [] fs
    none no_fillings = record { fillings = no_filling; renamed = none_renamed; mean = no_fillings }

    nothing : (l : List Filling) → length l ≡ 0 → RenameFillings R l []
    nothing [] e = λ T U fs r h. none h
    nothing (x ∷ l) e = absurd (omega arith)

-- ---- the parts together

pub value_renamed : {R : NewId} {kept made : Filled} {left fillings : List Filling}
    → RenamesSo R (out-Filled kept).fillings.items left fillings → length left ≡ 0
    → (out-Filled made).skeleton.items ≡ (out-Filled kept).skeleton.items
    → (out-Filled made).fillings.items ≡ fillings → RenamesKept R kept made
value_renamed {R = R} {kept = kept} s e skeleton are = record {
  skeleton = skeleton;
  fillings = subst (λ made. RenameFillings R (out-Filled kept).fillings.items made) (sym are) (all_renamed s e);
}

-- what is kept stands for this value, renamed
pub record HasRenamed (R : NewId) (U : Table) (u : TypeId) (made : Filled) (w : spelled.Filled) : Type 0 where
  pub value : spelled.Filled
  pub renamed : IsRenamedValue R w value
  pub means : IsFilled U u made value

pub has_renamed : {R : NewId} {kept made : Filled} {T U : Table} {t u : TypeId} {w : spelled.Filled}
    → RenamesKept R kept made → IsRenaming R T U → R t ≡ Some u → IsFilled T t kept w → HasRenamed R U u made w
has_renamed {U = U} h r stands (is_filled {v = v} top fl) =
    let g = h.fillings _ U _ r fl in
    record {
      value = filled v g.fillings;
      renamed = of_value g.renamed;
      means = is_filled (rw h.skeleton (top_renamed r stands top)) g.mean;
    }

pub filling_renamed : {R : NewId} {kept made : Filling}
    → RenamesKept R (out-Filling kept).value (out-Filling made).value
    → R (out-Filling kept).id ≡ Some (out-Filling made).id → (out-Filling made).place ≡ (out-Filling kept).place
    → (out-Filling made).name.items ≡ (out-Filling kept).name.items
    → (out-Filling made).definitions.items ≡ [] → RenamesFilling R kept made
filling_renamed {R = R} {kept = kept} {made = made} h stands place name none = λ T U fs r k. by T U r k
  where
    plain : (ds : List Definition) → ds ≡ []
        → definitions_of ds ≡ no_definitions
    plain [] e = refl
    plain (d ∷ ds) e = absurd (cc e)

    alike : {p q : ℕ} {s r : List ℕ} {ds es : Definitions} {u : TypeId} {x : spelled.Filled} → p ≡ q → s ≡ r
        → ds ≡ es → filling q r es u x no_filling ≡ filling p s ds u x no_filling
    alike e f g = cc

    by : (T U : Table) {fs : Fillings} → IsRenaming R T U → AreFillings T (kept ∷ []) fs
        → HaveRenamed R U (made ∷ []) fs
    by T U r (filling_then {w = w} m no_fillings) =
        let a : HasRenamed R U (out-Filling made).id (out-Filling made).value w = has_renamed h r stands m in
        record {
          fillings = filling (out-Filling kept).place (out-Filling kept).name.items no_definitions (out-Filling made).id
              a.value no_filling;
          renamed = one_renamed stands a.renamed none_renamed;
          mean = subst (λ fs. AreFillings U (made ∷ []) fs)
              (sym (alike place name (plain (out-Filling made).definitions.items none)))
              (filling_then a.means no_fillings);
        }

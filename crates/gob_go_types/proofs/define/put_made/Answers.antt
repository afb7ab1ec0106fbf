-- Equal types are those of equal names and kinds, and the map says of the others what it said.
use Rattle.std.proofs.Common.{◌≡◌, ◌∙◌, List, ℕ, [], ◌∷◌, Bool, Option, Some, if◌then◌else◌, ap}
use Rattle.std.proofs.Common.{refl, sym}
use Rattle.std.specs.Borrow.{Bor}
use Rattle.std.specs.Map.{lookup}
use Rattle.gob_types.specs.declared.id.TypeId.{TypeId}
use Rattle.gob_go_types.specs.contracts.made.MadePartialEq.TheImpl.{ghosts}
use Rattle.gob_go_types.specs.declared.made.Made.{Made}
use Rattle.gob_go_types.specs.declared.made.MadeKind.{MadeKind}
use Rattle.gob_go_types.specs.declared.made.MadeKind.TheVariants as made
use Rattle.gob_go_types.specs.Machine.{same_made}
use Rattle.gob_go_types.proofs.define.put_made.Goals as goal

abbrev made_of : Bor (List ℕ) → MadeKind → Made
made_of v k = record { name = v; kind = k }

equal_by : (v w : Bor (List ℕ)) (k l : MadeKind) → ghosts.eq (made_of v k) (made_of w l)
    ≡ same_made (made_of v k) (made_of w l)
equal_by v w made.Gob made.Gob = refl
equal_by v w made.Binary made.Binary = refl
equal_by v w made.Text made.Text = refl
equal_by v w (made.Array t n) (made.Array u m) = refl
equal_by v w (made.Slice t) (made.Slice u) = refl
equal_by v w (made.Map t u) (made.Map x y) = refl
equal_by v w _ _ = refl

equal : (x y : Made) → ghosts.eq x y ≡ same_made x y
equal x y = equal_by x.name y.name x.kind y.kind

lookup_same : (f g : Made → Bool) → ((x : Made) → f x ≡ g x) → (es : List (Made × TypeId)) → lookup f es ≡ lookup g es
lookup_same f g h [] = refl
lookup_same f g h (e ∷ es) =
    ap (λ b. if b then Some e.1 else lookup f es) (h e.0)
    ∙ ap (λ (o : Option TypeId). if g e.0 then Some e.1 else o) (lookup_same f g h es)

pub returns : goal.returns
returns c = record { each = each }
  where
    each : (k : Made) → lookup (same_made k) c.insert.new.self.entries
        ≡ (if same_made c.args.key k then Some c.args.id else lookup (same_made k) c.args.made.now.entries)
    each k =
        sym (lookup_same (ghosts.eq k) (same_made k) (equal k) c.insert.new.self.entries)
        ∙ c.in_ok-insert.ensures.updates.0 k
        ∙ ap (λ b. if b then Some c.args.id else lookup (ghosts.eq k) c.args.made.now.entries) (equal c.args.key k)
        ∙ ap (λ (o : Option TypeId). if same_made c.args.key k then Some c.args.id else o)
        (lookup_same (ghosts.eq k) (same_made k) (equal k) c.args.made.now.entries)

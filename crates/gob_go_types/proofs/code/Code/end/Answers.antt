-- A type that is no declared name ends a look, but for a pointer.
use Rattle.std.proofs.Common.{◌∙◌, Some, ap, refl}
use Rattle.gob_go_source.specs.declared.go_type.GoType.{GoType}
use Rattle.gob_go_types.specs.declared.sight.Sight.{Sight}
use Rattle.gob_go_types.specs.declared.sight.Step.{Step}
use Rattle.gob_go_types.specs.declared.sight.Step.TheVariants as step
use Rattle.gob_go_types.specs.Sight.{Ends, EndsLibrary, EndsName, EndsSlice, a_pointer, a_name, of_library, a_slice}
use Rattle.gob_go_types.specs.Sight.{an_array, a_map, a_struct, an_interface, not_sent}
use Rattle.gob_go_types.proofs.SightLaws.{if_ok}
use Rattle.gob_go_types.proofs.code.Code.end.Goals as goal

pub returns-in-Pointer : goal.returns-in-Pointer
returns-in-Pointer c = a_pointer (c.in_ok-found.ensures ∙ ap (λ (t : GoType). Some t) c.in-Pointer.is) refl

pub returns-in-Name : goal.returns-in-Name
returns-in-Name c =
    if_ok (λ (e : Step). EndsName c.in-Name.name.now e)
    (λ (e : Step). Ends c.args.self.now.source.now c.args.owner c.args.place e) c.end_of_name.result
    (λ e h. a_name (c.in_ok-found.ensures ∙ ap (λ (t : GoType). Some t) c.in-Name.is) h) c.end_of_name.ensures

pub returns-in-Qualified : goal.returns-in-Qualified
returns-in-Qualified c =
    if_ok (λ (e : Step). EndsLibrary c.args.owner c.in-Qualified.path.now c.in-Qualified.name e)
    (λ (e : Step). Ends c.args.self.now.source.now c.args.owner c.args.place e) c.end_of_library.result
    (λ e h. of_library (c.in_ok-found.ensures ∙ ap (λ (t : GoType). Some t) c.in-Qualified.is) h)
    c.end_of_library.ensures

pub returns-in-Slice : goal.returns-in-Slice
returns-in-Slice c =
    if_ok (λ (e : Step). EndsSlice c.args.self.now.source.now c.args.owner c.in-Slice.elem c.args.place e)
    (λ (e : Step). Ends c.args.self.now.source.now c.args.owner c.args.place e) c.end_of_slice.result
    (λ e h. a_slice (c.in_ok-found.ensures ∙ ap (λ (t : GoType). Some t) c.in-Slice.is) h) c.end_of_slice.ensures

pub returns-in-Array : goal.returns-in-Array
returns-in-Array c =
    an_array (c.in_ok-found.ensures ∙ ap (λ (t : GoType). Some t) c.in-Array.is)
    (ap (λ (v : Sight). step.At v) c.parts_sight.ensures)

pub returns-in-Map : goal.returns-in-Map
returns-in-Map c =
    a_map (c.in_ok-found.ensures ∙ ap (λ (t : GoType). Some t) c.in-Map.is)
    (ap (λ (v : Sight). step.At v) c.parts_sight-in-Map.ensures)

pub returns-in-Struct : goal.returns-in-Struct
returns-in-Struct c =
    a_struct (c.in_ok-found.ensures ∙ ap (λ (t : GoType). Some t) c.in-Struct.is)
    (ap (λ (v : Sight). step.At v) c.parts_sight-in-Struct.ensures)

pub returns-in-Interface : goal.returns-in-Interface
returns-in-Interface c = an_interface (c.in_ok-found.ensures ∙ ap (λ (t : GoType). Some t) c.in-Interface.is) refl

pub returns-in-Unsent : goal.returns-in-Unsent
returns-in-Unsent c = not_sent (c.in_ok-found.ensures ∙ ap (λ (t : GoType). Some t) c.in-Unsent.is) refl

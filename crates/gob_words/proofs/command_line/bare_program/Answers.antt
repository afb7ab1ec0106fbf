-- What help says is no part of what clap reads.
use Rattle.std.proofs.Common.{◌∙◌, true, ap}
use Rattle.clap.specs.Words.{App}
use Rattle.clap.specs.Simple.{app_of_fields}
use Rattle.gob_words.proofs.command_line.bare_program.Goals as goal

pub returns : goal.returns
returns c =
    let about = ap app_of_fields c.about.ensures ∙ c.new.ensures.app in
    let versioned = ap app_of_fields c.version.ensures
    ∙ ap (λ (x : App). record { top = record x.top { has_version = true }; subs = x.subs }) about in
    let used = ap app_of_fields c.after_help.ensures ∙ versioned in
    ap app_of_fields c.subcommand_required.ensures
    ∙ ap (λ (x : App). record { top = record x.top { subcommand_required = true }; subs = x.subs }) used

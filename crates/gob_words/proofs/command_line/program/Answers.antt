-- The exact commands stand behind those for people.
use Rattle.gob_words.proofs.command_line.program.Goals as goal

pub returns : goal.returns
returns c =
    let showing = c.with_command-showing.ensures _ _ c.people_program.ensures c.show.ensures.app in
    let checking = c.with_command-checking.ensures _ _ showing c.check.ensures.app in
    let rewriting = c.with_command-rewriting.ensures _ _ checking c.rewrite.ensures.app in
    let taking = c.with_command-taking.ensures _ _ rewriting c.take.ensures.app in
    let converting = c.with_command-converting.ensures _ _ taking c.convert.ensures.app in
    let writing = c.with_command-writing.ensures _ _ converting c.write.ensures.app in
    let making = c.with_command-making.ensures _ _ writing c.make.ensures.app in
    c.with_command.ensures _ _ making c.version.ensures.app

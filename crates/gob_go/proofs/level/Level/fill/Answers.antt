use Rattle.std.proofs.Common.{refl}
use Rattle.gob_go.proofs.FillSteps.{is_told, told_fits, told_room, told_within, fill_stops, grown_begin, grown_there}
use Rattle.gob_go.proofs.level.Level.fill.Goals as goal

pub fill-requires-clause-fits : goal.fill-requires-clause-fits
fill-requires-clause-fits c = told_fits (is_told c.requires.fits c.requires.at_nil c.requires.read c.requires.order
    c.requires.end c.begin-begin.ensures.range (c.announce.ensures.read _))

pub fill-requires-clause-clear : goal.fill-requires-clause-clear
fill-requires-clause-clear c = c.announce.ensures.clear _ c.requires.clear

pub fill-requires-clause-at_nil : goal.fill-requires-clause-at_nil
fill-requires-clause-at_nil c = c.announce.ensures.at_nil _ c.requires.at_nil

pub fill-requires-clause-room : goal.fill-requires-clause-room
fill-requires-clause-room c t limit announced z h = told_room t limit announced z (is_told c.requires.fits
    c.requires.at_nil c.requires.read c.requires.order c.requires.end c.begin-begin.ensures.range
    (c.announce.ensures.read _)) h

pub fault_of_stop-requires : goal.fault_of_stop-requires
fault_of_stop-requires c = told_within c.in-Err.stop (is_told c.requires.fits c.requires.at_nil c.requires.read
    c.requires.order c.requires.end c.begin-begin.ensures.range (c.announce.ensures.read _)) c.requires.order
    c.requires.end c.begin-begin.ensures.range refl (grown_begin c.args.around.now.taken
    c.begin-begin.ensures.begin (grown_there c.extend.result c.if-is_err.ensures.negation c.extend.ensures))
    c.in-Err.ensures.refused

pub returns-in-Err : goal.returns-in-Err
returns-in-Err c = fill_stops c.args.around.now.keeps c.args.self.now c.args.self.now c.in-Err.stop
    (is_told c.requires.fits c.requires.at_nil c.requires.read c.requires.order c.requires.end
    c.begin-begin.ensures.range (c.announce.ensures.read _)) refl c.requires.order refl
    (grown_begin c.args.around.now.taken c.begin-begin.ensures.begin
    (grown_there c.extend.result c.if-is_err.ensures.negation c.extend.ensures)) c.in-Err.ensures.refused
    c.fault_of_stop.ensures

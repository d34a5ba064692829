-- `perform` meets its contract, by the action of the command.
use mathlib.Core.Path.{sym, ◌∙◌}
use Rattle.rules.specs.Plans.{begin, open_file, open_read, write, commit, abort, read_page, look_page}
use Rattle.script.specs.declared.Action.{Action}
use Rattle.rules.proofs.CallLaws.{look_asked}
use Rattle.commands.proofs.CommandLaws.{step_by_lem, performed_call, performed_query}
use Rattle.commands.proofs.performer.perform.Goals as goal

pub returns-in-Begin : goal.returns-in-Begin
returns-in-Begin c =
    let plan = begin c.args.c.client in
    let step = step_by_lem c.args.c c.args.bytes.now Action.Begin c.in-Begin.is in
    λ m. performed_call c.args.v.now c.begin.new.volume c.args.s c.given_session-g.result m c.told.result
    c.args.c.crash plan c.args.c.budget _ c.begin.result step c.given_session-g.ensures c.begin.ensures c.told.ensures

pub returns-in-Open : goal.returns-in-Open
returns-in-Open c =
    let plan = open_file c.args.c.client c.args.c.file in
    let step = step_by_lem c.args.c c.args.bytes.now Action.Open c.in-Open.is in
    λ m. performed_call c.args.v.now c.open.new.volume c.args.s c.given_session-g.result m c.told-in-Open.result
    c.args.c.crash plan c.args.c.budget _ c.open.result step c.given_session-g.ensures c.open.ensures c.told-in-Open.ensures

pub returns-in-OpenRead : goal.returns-in-OpenRead
returns-in-OpenRead c =
    let plan = open_read c.args.c.client c.args.c.file in
    let step = step_by_lem c.args.c c.args.bytes.now Action.OpenRead c.in-OpenRead.is in
    λ m. performed_call c.args.v.now c.open_read.new.volume c.args.s c.given_session-g.result m c.told-in-OpenRead.result
    c.args.c.crash plan c.args.c.budget _ c.open_read.result step c.given_session-g.ensures c.open_read.ensures c.told-in-OpenRead.ensures

pub returns-in-Write : goal.returns-in-Write
returns-in-Write c =
    let plan = write c.args.c.client c.args.c.file c.args.c.page c.args.bytes.now in
    let step = step_by_lem c.args.c c.args.bytes.now Action.Write c.in-Write.is in
    λ m. performed_call c.args.v.now c.write.new.volume c.args.s c.given_session-g.result m c.told-in-Write.result
    c.args.c.crash plan c.args.c.budget _ c.write.result step c.given_session-g.ensures c.write.ensures c.told-in-Write.ensures

pub returns-in-Commit : goal.returns-in-Commit
returns-in-Commit c =
    let plan = commit c.args.c.client in
    let step = step_by_lem c.args.c c.args.bytes.now Action.Commit c.in-Commit.is in
    λ m. performed_call c.args.v.now c.commit.new.volume c.args.s c.given_session-g.result m c.told-in-Commit.result
    c.args.c.crash plan c.args.c.budget _ c.commit.result step c.given_session-g.ensures c.commit.ensures c.told-in-Commit.ensures

pub returns-in-Abort : goal.returns-in-Abort
returns-in-Abort c =
    let plan = abort c.args.c.client in
    let step = step_by_lem c.args.c c.args.bytes.now Action.Abort c.in-Abort.is in
    λ m. performed_call c.args.v.now c.abort.new.volume c.args.s c.given_session-g.result m c.told-in-Abort.result
    c.args.c.crash plan c.args.c.budget _ c.abort.result step c.given_session-g.ensures c.abort.ensures c.told-in-Abort.ensures

pub returns-in-Read : goal.returns-in-Read
returns-in-Read c =
    let asked = read_page c.args.c.client c.args.c.file c.args.c.page in
    let step = step_by_lem c.args.c c.args.bytes.now Action.Read c.in-Read.is in
    λ m. performed_query c.args.v.now c.args.s c.given_session-g.result m c.asked.result
    c.args.c.crash asked _ c.read.result step c.given_session-g.ensures c.read.ensures c.asked.ensures

pub returns-in-Look : goal.returns-in-Look
returns-in-Look c =
    let asked = look_page c.args.c.file c.args.c.page in
    let step = step_by_lem c.args.c c.args.bytes.now Action.Look c.in-Look.is in
    let same = look_asked c.args.v.now c.given_session-g.result c.args.c.file c.args.c.page in
    λ m. performed_query c.args.v.now c.args.s c.given_session-g.result m c.asked-in-Look.result
    c.args.c.crash asked _ c.look.result step c.given_session-g.ensures (c.look.ensures ∙ sym same) c.asked-in-Look.ensures

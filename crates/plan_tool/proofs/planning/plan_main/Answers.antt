use Rattle.std.proofs.Common.{subst, map, string_bytes}
use Rattle.plan_tool.specs.declared.options.Options.{Options}
use Rattle.plan_tool.specs.Session.{Runs}
use Rattle.plan_tool.proofs.LastLine.{run_of, stops_at, rose_in}
use Rattle.plan_tool.proofs.Ranges.{options_in_range, told_options, only_options}
use Rattle.plan_tool.proofs.planning.plan_main.Goals as goal

pub run_plan-ending-requires : goal.run_plan-ending-requires
run_plan-ending-requires g c = options_in_range (map string_bytes c.args.words.now) c.in-Ok.options (told_options (map string_bytes c.args.words.now) c.in-Ok.options c.in-Ok.ensures)

pub returns-clause-run : goal.returns-clause-run
returns-clause-run g c = λ options is.
    let said = told_options (map string_bytes c.args.words.now) c.in-Ok.options c.in-Ok.ensures in
    let same = only_options (map string_bytes c.args.words.now) c.in-Ok.options options said is in
    subst (λ (o : Options). Runs o (g.S.Source.left c.args.source.now) (g.K.Sink.taken c.args.sink.now) (g.K.Sink.taken c.close-2.new.sink) c.close-2.result) same
    (run_of c.in-Ok.options _ _ (g.K.Sink.taken c.run_plan-ending.new.sink) _ c.run_plan-ending.result _ c.run_plan-ending.ensures.planned
    (c.close-2.ensures.closed _ c.run_plan-ending.ensures.planned.output c.run_plan-ending.ensures.planned.written))

pub returns-clause-complete : goal.returns-clause-complete
returns-clause-complete g c = λ options is.
    stops_at c.in-Ok.options _ _ _ _
    (run_of c.in-Ok.options _ _ (g.K.Sink.taken c.run_plan-ending.new.sink) (g.K.Sink.taken c.close-2.new.sink) c.run_plan-ending.result _ c.run_plan-ending.ensures.planned
    (c.close-2.ensures.closed _ c.run_plan-ending.ensures.planned.output c.run_plan-ending.ensures.planned.written))
    (λ e. c.run_plan-ending.ensures.source (c.close-2.ensures.source e))
    (λ e. rose_in _ _ (g.K.Sink.faults c.run_plan-ending.new.sink) _ c.run_plan-ending.ensures.sink c.run_plan-ending.ensures.later c.close-2.ensures.later (c.close-2.ensures.sink e))

use Rattle.std.proofs.Common.{◌≡◌, ◌+◌, ◌<◌, ◌≤◌, length, List, ◌++◌, ◌∷◌, [], map, take, arith, ap}
use Rattle.std.proofs.Common.{sym, subst, rules, ◌∙◌}
use Rattle.std.proofs.lemmas.List.{length-map, take_all, take-map}
use Rattle.sg_target.specs.Charge.{IsCharged, cost_bounds}
use Rattle.sg_target.specs.Armed.{Armed}
use Rattle.sg_target.specs.Runs.{after_event, armed_disk, armed_step_of, exchange, ranges_of_call}
use Rattle.sg_target.specs.Runs.{Stopped}
use Rattle.sg_target.specs.Target.{disk_of}
use Rattle.sg_target.specs.declared.event.Event.{Event}
use Rattle.sg_target.specs.declared.event.Event.TheVariants as event
use Rattle.sg_target.proofs.RunLemmas.{after-more, events-more, exchanged-happening, exchanged-more}
use Rattle.sg_target.proofs.RunLemmas.{all-within, answer-carried, happened, on-err, size-carried}
use Rattle.sg_target.proofs.RunLemmas.{within-seen}
use Rattle.sg_target.proofs.target.Target.run_list.Goals as goal
use Rattle.sg_target.proofs.target.Target.run_list.Goals.{in-Call+in_ok-take-in-Call, in-Happen}

pub returns-in_err-take-in-Call : goal.returns-in_err-take-in-Call
returns-in_err-take-in-Call g c =
    let disk = disk_of c.args.self.now in
    let list = c.args.list.now in
    let i = c.loop-item.item-index in
    let call = c.in-Call.call in
    let here : i < length list = omega arith in
    let before : List Event = map g.E.ToEvent.event (take i list) in
    let first : take i (map g.E.ToEvent.event list) ≡ before = take-map g.E.ToEvent.event i list in
    let next : take (i + 1) (map g.E.ToEvent.event list) ≡ before ++ event.Call call ∷ [] =
    take-map g.E.ToEvent.event (i + 1) list
    ∙ events-more g.E.ToEvent.event list i c.item-item.result (event.Call call) here c.item-item.is
    (sym c.to_event.ensures ∙ c.in-Call.is) in
    let so_far = c.loop-item.invariant.after in
    let answered = answer-carried _ _ c.execute-reply.result _ _ c.execute-reply.ensures.executed.answer
    ∙ ap (λ d. (armed_step_of d call).answer) so_far in
    let size = size-carried _ _ c.execute-reply.result _ _ c.execute-reply.ensures.executed.answer in
    let charged =
    subst (λ (d : Armed). IsCharged (cost_bounds g.S.Store.price g.S.Store.least) d.state.disk.pool
    (ranges_of_call d call) c.loop-item.self.meter c.execute-reply.new.self.meter
    c.execute-reply.result) so_far c.execute-reply.ensures.charged.charge in
    let stopped : Stopped (cost_bounds g.S.Store.price g.S.Store.least) disk
    (map g.E.ToEvent.event list)
    (g.K.Sink.fields c.args.sink.now).taken (g.K.Sink.fields c.take.new.self).taken c.args.self.now.meter
    c.execute-reply.new.self.meter (disk_of c.execute-reply.new.self) = record {
      index = i;
      in_range = omega (arith, here, length-map list g.E.ToEvent.event);
      between = c.loop-item.self.meter;
      took = rw (first, c.in_err-take-in-Call.ensures.refused) c.loop-item.invariant.took;
      refused = exchange c.execute-reply.result (take c.execute-reply.result.data_in c.execute-reply.new.buf);
      with_refused = rw (next, c.in_err-take-in-Call.ensures.refused)
          (exchanged-more (cost_bounds g.S.Store.price g.S.Store.least) disk
          before _ _ _ _ _ call _ c.loop-item.invariant.took answered size charged);
      disk_is =
          rw next (c.execute-reply.ensures.executed.after
          ∙ ap (λ d. (armed_step_of d call).after) so_far
          ∙ sym (after-more armed_disk disk before (event.Call call)));
    } in
    record {
      took = search rules;
      after = search rules;
      sound = search rules;
      stopped = on-err c.from_residual.result _ stopped;
      fault = search rules;
      limits = λ n.
          all-within c.limits_are_kept.ensures _ (map g.E.ToEvent.event list) n
          (within-seen _ _ c.self.view_is c.self.invariant.1 c.self.invariant.2 c.self.invariant.3
          c.used.ensures.well_formed);
    }

pub loop-item-preserved : goal.loop-item-preserved
loop-item-preserved g c =
    let disk = disk_of c.args.self.now in
    let list = c.args.list.now in
    let i = c.loop-item.item-index in
    let here : i < length list = omega arith in
    let before : List Event = map g.E.ToEvent.event (take i list) in
    let more = λ (last : Event) (e : g.E.ToEvent.event c.item-item.result ≡ last).
    events-more g.E.ToEvent.event list i c.item-item.result last here c.item-item.is e in
    let so_far = c.loop-item.invariant.after in
    elim c.match-to_event.branch [
      | in-Call+in_ok-take-in-Call w ↦
          let call = w.in-Call.call in
          let next = more (event.Call call) (sym c.to_event.ensures ∙ w.in-Call.is) in
          let answered = answer-carried _ _ w.execute-reply.result _ _ w.execute-reply.ensures.executed.answer
          ∙ ap (λ d. (armed_step_of d call).answer) so_far in
          let size = size-carried _ _ w.execute-reply.result _ _ w.execute-reply.ensures.executed.answer in
          let charged =
          subst (λ (d : Armed). IsCharged (cost_bounds g.S.Store.price g.S.Store.least) d.state.disk.pool
          (ranges_of_call d call) c.loop-item.self.meter w.execute-reply.new.self.meter
          w.execute-reply.result) so_far w.execute-reply.ensures.charged.charge in
          record {
            took = rw (next, w.self-is, w.sink-is, w.in_ok-take-in-Call.ensures.taken)
                (exchanged-more (cost_bounds g.S.Store.price g.S.Store.least) disk
                before _ _ _ _ _ call _ c.loop-item.invariant.took answered size charged);
            after =
                rw (next, w.self-is) (w.execute-reply.ensures.executed.after
                ∙ ap (λ d. (armed_step_of d call).after) so_far
                ∙ sym (after-more armed_disk disk before (event.Call call)));
            sound = rw w.sink-is (w.in_ok-take-in-Call.ensures.sound ∙ c.loop-item.invariant.sound);
          }
      | in-Happen w ↦
          let last = event.Happen w.in-Happen.happening in
          let next = more last (sym c.to_event.ensures ∙ w.in-Happen.is) in
          record {
            took = rw (next, w.self-is, w.sink-is, w.happen.ensures.meter)
                (exchanged-happening (cost_bounds g.S.Store.price g.S.Store.least) disk
                before _ _ _ _ w.in-Happen.happening c.loop-item.invariant.took);
            after =
                rw (next, w.self-is) (happened w.in-Happen.happening _ _ w.happen.ensures
                ∙ ap (λ d. after_event armed_disk d last) so_far
                ∙ sym (after-more armed_disk disk before last));
            sound = rw w.sink-is c.loop-item.invariant.sound;
          }
    ]

pub returns : goal.returns
returns g c =
    let list = c.args.list.now in
    let ended : length list ≤ c.loop-item.item-index = omega arith in
    let whole = take_all c.loop-item.item-index list ended in
    record {
      took = rw whole at c.loop-item.invariant.took;
      after = rw whole at c.loop-item.invariant.after;
      sound = search rules;
      stopped = search rules;
      fault = search rules;
      limits = λ n.
          all-within c.limits_are_kept.ensures _ (map g.E.ToEvent.event list) n
          (within-seen _ _ c.self.view_is c.self.invariant.1 c.self.invariant.2 c.self.invariant.3
          c.used.ensures.well_formed);
    }

use Rattle.std.proofs.Common.{Bool, sym, ap, subst, ◌∙◌, rules}
use Rattle.sg_embed.specs.Ends.{unflushed_outcome}
use Rattle.sg_embed.specs.Served.{Executes}
use Rattle.sg_embed.proofs.slot.Slot.execute_as.Goals as goal

pub returns-then-waits-clause-executed : goal.returns-then-waits-clause-executed
returns-then-waits-clause-executed c checked =
    let done = c.in-Some-execute_within.done in
    let left = c.execute_within.new.self in
    record {
      waits = c.execute_within.new.waits;
      answered = record {
        reply = done;
        executed = record {
          disk = c.in-Some.kept.now;
          left = record { target = left };
          was = search rules;
          is = search rules;
          happened = search rules;
        };
        shows = search rules;
      };
      reports = sym (ap (λ (waits : Bool). unflushed_outcome waits left) c.if-waits.true);
    }

pub returns-clause-executed : goal.returns-clause-executed
returns-clause-executed c checked =
    let done = c.in-Some-execute_within.done in
    let left = c.execute_within.new.self in
    record {
      waits = c.execute_within.new.waits;
      answered = record {
        reply = done;
        executed = record {
          disk = c.in-Some.kept.now;
          left = record { target = left };
          was = search rules;
          is = search rules;
          happened = search rules;
        };
        shows = search rules;
      };
      reports = c.executed.ensures
          ∙ sym (ap (λ (waits : Bool). unflushed_outcome waits left) c.if-waits.false);
    }

pub returns-clause-flushed : goal.returns-clause-flushed
returns-clause-flushed c flushes checked =
    let done = c.in-Some-execute_within.done in
    let left = c.execute_within.new.self in
    let happened : Executes c.args.initiator c.args.cdb.now c.args.data_out.now done
    c.execute_within.new.waits
    c.args.data_in.now c.execute_within.new.buf c.in-Some.kept.now.target left = search rules in
    record {
      reply = done;
      executed = record {
        disk = c.in-Some.kept.now;
        left = record { target = left };
        was = search rules;
        is = search rules;
        happened = subst (λ (waits : Bool). Executes c.args.initiator c.args.cdb.now
            c.args.data_out.now done waits c.args.data_in.now c.execute_within.new.buf
            c.in-Some.kept.now.target left)
            (c.execute_within.ensures.flushed flushes) happened;
      };
      shows = search rules;
    }

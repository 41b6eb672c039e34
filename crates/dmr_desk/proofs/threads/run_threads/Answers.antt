use Rattle.std.proofs.Common.{rules, ◌∙◌}
use Rattle.dmr_desk.proofs.CrewLemmas.{new_then, all_new_then, crew_of}
use Rattle.dmr_desk.proofs.threads.run_threads.Goals as goal

pub invariant_of-crew : goal.invariant_of-crew
invariant_of-crew g c =
    let k = crew_of _ _ _ _ _ _ c.requires.seats (rw c.in_ok-console_seat.was at c.pop.ensures.items)
    (rw c.in_ok-pacer_seat.was at c.pop-2.ensures.items) in
    record {
      each = c.pop-2.new.self.ok.0 ∙ k.0;
      new = all_new_then _ _ k.1;
      pacer = new_then _ _ k.2;
      console = new_then _ _ k.3;
      empty = search rules;
      fits = c.requires.room;
    }

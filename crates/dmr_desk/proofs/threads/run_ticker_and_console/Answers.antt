use Rattle.std.proofs.Common.{◌∙◌}
use Rattle.dmr_desk.proofs.threads.run_ticker_and_console.Goals as goal

pub returns-in-Some-clause-ticker : goal.returns-in-Some-clause-ticker
returns-in-Some-clause-ticker g c =
    let promised = rw c.in-Ok.is at c.spawn_with.ensures.ok in
    let joined = rw promised at c.join-ticker.ensures in
    let kept = rw c.of.ensures at joined in
    record { own = kept.own ∙ c.actor.ensures; ticked = kept.ticked }

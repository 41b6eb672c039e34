use Rattle.std.specs.Prelude.{reverse}
use Rattle.dmr_desk.specs.Life.{joined_journal, past_after_terms}
use Rattle.dmr_desk.proofs.JournalsJoin.{one_journal, stations_stay, nobody_else, each_within, journals_joined, views_joined}
use Rattle.dmr_desk.proofs.TicksAddUp.{ticker_works}
use Rattle.dmr_desk.proofs.WorkersGoOn.{all_fit, carrier_works, console_works, records_of_terms, answers_since}
use Rattle.dmr_desk.proofs.life.one_life.Goals as goal

pub returns-clause-legal : goal.returns-clause-legal
returns-clause-legal c = λ start ends are. (one_journal start ends are).0

pub returns-clause-safe : goal.returns-clause-safe
returns-clause-safe c = λ start ends is are.
    let law = c.each_act_is_safe.ensures in
    let legal = (one_journal start ends are).0 in
    record {
      free = law.free start.site.plan start.site.facts (reverse (joined_journal ends)) is.plan is.sound legal;
      known = law.known start.site.plan start.site.facts (reverse (joined_journal ends)) is.plan is.sound legal;
      quiet = λ carrier has. law.quiet start.site.plan start.site.facts carrier (reverse (joined_journal ends)) is.plan has is.sound legal;
      own = law.own start.site.plan start.site.facts (reverse (joined_journal ends)) is.plan is.sound legal;
    }

pub returns-clause-site : goal.returns-clause-site
returns-clause-site c = λ start ends are. (one_journal start ends are).1

pub returns-clause-within : goal.returns-clause-within
returns-clause-within c = each_within

pub returns-clause-nobody : goal.returns-clause-nobody
returns-clause-nobody c = nobody_else

pub returns-clause-journals : goal.returns-clause-journals
returns-clause-journals c = journals_joined

pub returns-clause-views : goal.returns-clause-views
returns-clause-views c = views_joined

pub returns-clause-handed_back : goal.returns-clause-handed_back
returns-clause-handed_back c = stations_stay

pub returns-clause-fits : goal.returns-clause-fits
returns-clause-fits c = all_fit c.happenings_follow.ensures.none c.happenings_follow.ensures.both

pub returns-clause-carriers : goal.returns-clause-carriers
returns-clause-carriers c = carrier_works c.happenings_follow.ensures.none c.happenings_follow.ensures.both

pub returns-clause-console : goal.returns-clause-console
returns-clause-console c = console_works c.happenings_follow.ensures.none c.happenings_follow.ensures.both

pub returns-clause-ticker : goal.returns-clause-ticker
returns-clause-ticker c = ticker_works

pub returns-clause-meaning : goal.returns-clause-meaning
returns-clause-meaning c = λ m n past terms went stands. c.one_meaning.ensures.stands n.at.link (past_after_terms past terms)
    (went.stands past stands)

pub returns-clause-records : goal.returns-clause-records
returns-clause-records c = λ m n past terms went stands. records_of_terms c.one_record.ensures.steps m.at.link.who past terms
    (went.orderly past stands)

pub returns-clause-since : goal.returns-clause-since
returns-clause-since c = answers_since

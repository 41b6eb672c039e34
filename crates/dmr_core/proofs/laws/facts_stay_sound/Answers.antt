use Rattle.dmr_core.proofs.PlansAreKnown.{plan_known}
use Rattle.dmr_core.proofs.ActsAreSafe.{sound_after}
use Rattle.dmr_core.proofs.NothingIsSound.{nothing_is_sound}
use Rattle.dmr_core.proofs.AnswerSizes.{acts_few}
use Rattle.dmr_core.proofs.AnswersMayBeDone.{acts_may}
use Rattle.dmr_core.proofs.PollSizes.{two_at_a_poll}
use Rattle.dmr_core.proofs.laws.facts_stay_sound.Goals as goal

pub returns-clause-sound : goal.returns-clause-sound
returns-clause-sound c = λ plan facts journal p h legal. sound_after plan facts journal (plan_known plan p) h legal

pub returns-clause-nothing : goal.returns-clause-nothing
returns-clause-nothing c = nothing_is_sound

pub returns-clause-few : goal.returns-clause-few
returns-clause-few c = λ plan facts event p h. acts_few plan facts event (plan_known plan p) h

pub returns-clause-may : goal.returns-clause-may
returns-clause-may c = λ plan facts event p h. acts_may plan facts event (plan_known plan p) h

pub returns-clause-polled : goal.returns-clause-polled
returns-clause-polled c = two_at_a_poll

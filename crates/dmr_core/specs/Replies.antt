-- The site's reply to an event: only an operator's command has one.
use Rattle.std.specs.Prelude.{Option, None}
use Rattle.dmr_plan.specs.declared.settings.Settings.{Settings}
use Rattle.dmr_core.specs.declared.reply.Reply.{Reply}
use Rattle.dmr_core.specs.declared.event.Event.{Event}
use Rattle.dmr_core.specs.declared.event.Event.TheVariants.{Say}
use Rattle.dmr_core.specs.Facts.{Facts}
use Rattle.dmr_core.specs.Rules.{answer_to_command}

-- the reply to an event, which is that of the answer to a command, else None
abbrev pub reply_to : Settings → Facts → Event → Option Reply
reply_to plan now (Say command) = (answer_to_command plan now command).said
reply_to plan now _ = None

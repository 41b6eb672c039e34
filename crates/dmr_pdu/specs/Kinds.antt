-- The service kinds by their numbers (TS 102 361-4, clause 7.2), for clauses: a clause cannot name a constant of
-- `Kind`.
use Rattle.std.specs.Prelude.{ℕ}

-- service kind 0: a voice call to one radio
abbrev pub individual_voice : ℕ
individual_voice = 0

-- service kind 1: a voice call to a talkgroup
abbrev pub talkgroup_voice : ℕ
talkgroup_voice = 1

-- service kind 14: a radio registers, or leaves
abbrev pub registration : ℕ
registration = 14

-- service kind 15: a radio cancels its call request
abbrev pub cancel : ℕ
cancel = 15

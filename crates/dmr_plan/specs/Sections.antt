-- The sections of a site file: groups of keys, in the order of the keys, each up to its first fault.
use Rattle.std.specs.Prelude.{◌≡◌, ◌≢◌, ◌≤◌, true, IfSome, Result, Ok, Err, if◌then◌else◌}
use Rattle.toml.specs.Data.{Members}
use Rattle.dmr_plan.specs.declared.key.Key.TheVariants as key
use Rattle.dmr_plan.specs.declared.fault.PlanFault.{PlanFault}
use Rattle.dmr_plan.specs.declared.fault.PlanFault.TheVariants.{OutOfRange}
use Rattle.dmr_plan.specs.declared.sections.SystemSection.{SystemSection}
use Rattle.dmr_plan.specs.declared.sections.AlohaSection.{AlohaSection}
use Rattle.dmr_plan.specs.declared.sections.CallSection.{CallSection}
use Rattle.dmr_plan.specs.declared.sections.ServingSection.{ServingSection}
use Rattle.dmr_plan.specs.declared.sections.ListSection.{ListSection}
use Rattle.dmr_plan.specs.Keys.{IsNumberOf, limits_of}
use Rattle.dmr_plan.specs.Kept.{IsAddress, AreRadios, AreGroups, AreCarriers}
use Rattle.dmr_plan.specs.Steps.{◌>>=◌}
use Rattle.dmr_plan.specs.Numbers.{number_at_key, bit_in, optional_in, number_from_in}
use Rattle.dmr_plan.specs.Numbers.{number_unlike_in}
use Rattle.dmr_plan.specs.Lists.{address_of, radios_of, groups_of}
use Rattle.dmr_plan.specs.Carriers.{has_number_in, carriers_of}

-- the system and its services
unfoldable pub system_of : Members → Result SystemSection PlanFault
system_of ms = do
  system ← number_at_key ms key.System
  regi ← number_at_key ms key.Regi
  tsi ← number_unlike_in ms key.Tsi key.Regi
  leave_bit ← optional_in ms key.LeaveBit
  Ok (record { system = system; regi = regi; tsi = tsi; leave_bit = leave_bit })

-- the fields of C_ALOHA
unfoldable pub aloha_of : Members → Result AlohaSection PlanFault
aloha_of ms = do
  sync ← bit_in ms key.AlohaSync
  version ← number_at_key ms key.AlohaVersion
  offset ← bit_in ms key.AlohaOffset
  active ← bit_in ms key.AlohaActive
  nrand_wait ← number_at_key ms key.NrandWait
  Ok (record {
    sync = sync;
    version = version;
    offset = offset;
    active = active;
    nrand_wait = nrand_wait;
  })

-- the times and counts of calls and of random access
unfoldable pub calls_of : Members → Result CallSection PlanFault
calls_of ms = do
  hang ← number_at_key ms key.Hang
  maximum ← number_at_key ms key.Maximum
  ahoy_wait ← number_at_key ms key.AhoyWait
  ahoy_tries ← number_at_key ms key.AhoyTries
  grant_copies ← number_at_key ms key.GrantCopies
  clear_copies ← number_at_key ms key.ClearCopies
  backoff_low ← number_at_key ms key.BackoffLow
  backoff_high ← number_from_in ms key.BackoffHigh key.BackoffLow
  Ok (record {
    hang = hang;
    maximum = maximum;
    ahoy_wait = ahoy_wait;
    ahoy_tries = ahoy_tries;
    grant_copies = grant_copies;
    clear_copies = clear_copies;
    backoff_low = backoff_low;
    backoff_high = backoff_high;
  })

-- how the site is served
unfoldable pub serving_of : Members → Result ServingSection PlanFault
serving_of ms = do
  tick_ms ← number_at_key ms key.TickMs
  silence ← number_at_key ms key.Silence
  term_entries ← number_at_key ms key.TermEntries
  link_version ← number_at_key ms key.LinkVersion
  address ← address_of ms
  Ok (record {
    tick_ms = tick_ms;
    silence = silence;
    term_entries = term_entries;
    link_version = link_version;
    address = address;
  })

-- the console's port and the lists; the control carrier is one of the carriers
unfoldable pub lists_of : Members → Result ListSection PlanFault
lists_of ms = do
  console_port ← number_at_key ms key.ConsolePort
  radios ← radios_of ms
  groups ← groups_of ms
  carriers ← carriers_of ms
  control ← number_at_key ms key.Control
  if has_number_in carriers control
      then Ok (record {
        console_port = console_port;
        radios = radios;
        groups = groups;
        carriers = carriers;
        control = control;
      })
      else Err (OutOfRange key.Control)

-- ---- what each section satisfies

-- each key of the system is within its range, and the services have two addresses
pub record IsSystemSection (s : SystemSection) : Type 0 where
  pub system : IsNumberOf key.System s.system
  pub regi : IsNumberOf key.Regi s.regi
  pub tsi : IsNumberOf key.Tsi s.tsi
  pub apart : s.tsi ≢ s.regi
  pub leave_bit : IfSome s.leave_bit (IsNumberOf key.LeaveBit)

-- each field of C_ALOHA is within its range
pub record IsAlohaSection (s : AlohaSection) : Type 0 where
  pub version : IsNumberOf key.AlohaVersion s.version
  pub nrand_wait : IsNumberOf key.NrandWait s.nrand_wait

-- each time and count is within its range, and the backoffs are in order
pub record IsCallSection (s : CallSection) : Type 0 where
  pub hang : IsNumberOf key.Hang s.hang
  pub maximum : IsNumberOf key.Maximum s.maximum
  pub ahoy_wait : IsNumberOf key.AhoyWait s.ahoy_wait
  pub ahoy_tries : IsNumberOf key.AhoyTries s.ahoy_tries
  pub grant_copies : IsNumberOf key.GrantCopies s.grant_copies
  pub clear_copies : IsNumberOf key.ClearCopies s.clear_copies
  pub backoff_low : IsNumberOf key.BackoffLow s.backoff_low
  pub backoff_high : (s.backoff_low ≤ s.backoff_high)
      × (s.backoff_high ≤ (limits_of key.BackoffHigh).range.most)

-- each key of serving is within its range
pub record IsServingSection (s : ServingSection) : Type 0 where
  pub tick_ms : IsNumberOf key.TickMs s.tick_ms
  pub silence : IsNumberOf key.Silence s.silence
  pub term_entries : IsNumberOf key.TermEntries s.term_entries
  pub link_version : IsNumberOf key.LinkVersion s.link_version
  pub address : IsAddress s.address

-- the lists are right, and the control carrier is one of the carriers
pub record IsListSection (s : ListSection) : Type 0 where
  pub console_port : IsNumberOf key.ConsolePort s.console_port
  pub radios : AreRadios s.radios
  pub groups : AreGroups s.groups
  pub carriers : AreCarriers s.console_port s.carriers
  pub control : has_number_in s.carriers s.control ≡ true

-- The command line: the program's subcommands, and the order that the words name.
use Rattle.std.specs.Prelude.{◌≡◌, ◌⊎◌, ℕ, Bool, true, false, nat_le, ◌&&◌, if◌then◌else◌, List, [], Option, Some, None, option_and_then, codes, bytes_eq}
use Rattle.clap.specs.Words.{App, Rule, Row, Text, new_app, new_rule, with_rule, with_subcommand, fault_of, first_of, subcommand_of, takes}
use Rattle.clap.specs.declared.builder.ArgAction.TheVariants.{Set, SetTrue}
use Rattle.request_target.specs.Numbers.{decimal_number}
use Rattle.stream_server.specs.declared.interface.Interface.{Interface}
use Rattle.stream_server.specs.declared.interface.Interface.TheVariants.{Devices, Management, Both}
use Rattle.command_line.specs.declared.order.Setup.{Setup}
use Rattle.command_line.specs.declared.order.Order.{Order}
use Rattle.command_line.specs.declared.order.Order.TheVariants.{Run, Serve, Import, Report, Verify}

-- ---- what the command line is made of

-- `--db PATH`
abbrev pub db_rule : Rule
db_rule = record (new_rule (codes "db")) { long = Some (codes "db"); action = Some Set; required = true }

-- `--interface WORD`
abbrev pub interface_rule : Rule
interface_rule = record (new_rule (codes "interface")) { long = Some (codes "interface"); action = Some Set; required = true }

-- `--approval`
abbrev pub approval_rule : Rule
approval_rule = record (new_rule (codes "approval")) { long = Some (codes "approval"); action = Some SetTrue }

abbrev pub run_app : App
run_app = with_rule (with_rule (with_rule (new_app (codes "run")) db_rule) interface_rule) approval_rule

-- `--port N`
abbrev pub port_rule : Rule
port_rule = record (new_rule (codes "port")) { long = Some (codes "port"); action = Some Set; required = true }

-- `--connections N`
abbrev pub connections_rule : Rule
connections_rule = record (new_rule (codes "connections")) { long = Some (codes "connections"); action = Some Set; required = true }

abbrev pub port_app : App
port_app = with_rule (with_rule (new_app (codes "serve")) port_rule) connections_rule

abbrev pub serve_app : App
serve_app = with_rule (with_rule (with_rule port_app db_rule) interface_rule) approval_rule

-- `--file PATH`
abbrev pub file_rule : Rule
file_rule = record (new_rule (codes "file")) { long = Some (codes "file"); action = Some Set; required = true }

abbrev pub import_app : App
import_app = with_rule (with_rule (new_app (codes "import")) db_rule) file_rule

-- `--rollout N`
abbrev pub rollout_rule : Rule
rollout_rule = record (new_rule (codes "rollout")) { long = Some (codes "rollout"); action = Some Set; required = true }

abbrev pub report_app : App
report_app = with_rule (with_rule (new_app (codes "report")) db_rule) rollout_rule

-- the program itself, which has a version to tell
abbrev pub named_app : App
named_app =
    let app = new_app (codes "fwdesk") in
    record app { top = record (app.top) { has_version = true } }

abbrev pub serving_app : App
serving_app = with_subcommand (with_subcommand named_app run_app.top) serve_app.top

abbrev pub asking_app : App
asking_app = with_subcommand (with_subcommand serving_app import_app.top) report_app.top

abbrev pub verify_app : App
verify_app = with_rule (new_app (codes "verify")) db_rule

abbrev pub program_app : App
program_app = with_subcommand asking_app verify_app.top

-- ---- the order

-- the word of an interface
abbrev pub interface_word : Interface → Text
interface_word Devices = codes "ddi"
interface_word Management = codes "mgmt"
interface_word Both = codes "both"

-- whether a flag was given
abbrev pub is_given : Option Text → Bool
is_given None = false
is_given (Some text) = bytes_eq text (codes "true")

-- a number of decimal digits without a leading zero, in the range
abbrev pub number_in_range : ℕ → ℕ → Option Text → Option ℕ
number_in_range low high None = None
number_in_range low high (Some text) = option_and_then (λ n. if nat_le low n && nat_le n high then Some n else None) (decimal_number text)

-- what the values of a subcommand say of the desk
pub record IsSetup (rows : List Row) (setup : Setup) : Type 0 where
  pub db_is : first_of (codes "db") rows ≡ Some setup.db.now
  pub interface_is : first_of (codes "interface") rows ≡ Some (interface_word setup.interface)
  pub approval_is : setup.approval ≡ is_given (first_of (codes "approval") rows)

-- they say all that every order asks
abbrev pub NamesSetup : List Row → Type 0
NamesSetup rows = (setup : Setup) × IsSetup rows setup

-- the subcommand `run` was met, with these values
pub record IsRun (found : Option (Text × List Row)) (setup : Setup) : Type 0 where
  pub rows : List Row
  pub subcommand : found ≡ Some (codes "run", rows)
  pub setup_is : IsSetup rows setup

-- the subcommand `serve` was met, with these values
pub record IsServe (found : Option (Text × List Row)) (setup : Setup) (port connections : ℕ) : Type 0 where
  pub rows : List Row
  pub subcommand : found ≡ Some (codes "serve", rows)
  pub setup_is : IsSetup rows setup
  pub port_is : number_in_range 1 65535 (first_of (codes "port") rows) ≡ Some port
  pub connections_is : number_in_range 1 1000000 (first_of (codes "connections") rows) ≡ Some connections

-- the subcommand `import` was met, with these values
pub record IsImport (found : Option (Text × List Row)) (db file : Text) : Type 0 where
  pub rows : List Row
  pub subcommand : found ≡ Some (codes "import", rows)
  pub db_is : first_of (codes "db") rows ≡ Some db
  pub file_is : first_of (codes "file") rows ≡ Some file

-- the subcommand `report` was met, with these values
pub record IsReport (found : Option (Text × List Row)) (db : Text) (rollout : ℕ) : Type 0 where
  pub rows : List Row
  pub subcommand : found ≡ Some (codes "report", rows)
  pub db_is : first_of (codes "db") rows ≡ Some db
  pub rollout_is : number_in_range 1 2147483647 (first_of (codes "rollout") rows) ≡ Some rollout

-- the subcommand `verify` was met, with this value
pub record IsVerify (found : Option (Text × List Row)) (db : Text) : Type 0 where
  pub rows : List Row
  pub subcommand : found ≡ Some (codes "verify", rows)
  pub db_is : first_of (codes "db") rows ≡ Some db

-- what the words name, in the way that `clap` defines the matches of a simple command
abbrev pub IsOrder : Option (Text × List Row) → Order → Type 0
IsOrder found (Run setup) = IsRun found setup
IsOrder found (Serve setup port connections) = IsServe found setup port connections
IsOrder found (Import db file) = IsImport found db.now file.now
IsOrder found (Report db rollout) = IsReport found db.now rollout
IsOrder found (Verify db) = IsVerify found db.now

-- whether a new desk asks for approval of each rollout: where `run` and `serve` were told so
abbrev pub asks_approval : Order → Bool
asks_approval (Run setup) = setup.approval
asks_approval (Serve setup port connections) = setup.approval
asks_approval (Import db file) = false
asks_approval (Report db rollout) = false
asks_approval (Verify db) = false

-- the path of its database
abbrev pub database_of : Order → Text
database_of (Run setup) = setup.db.now
database_of (Serve setup port connections) = setup.db.now
database_of (Import db file) = db.now
database_of (Report db rollout) = db.now
database_of (Verify db) = db.now

-- what the words name is an order
abbrev pub NamesOrder : Option (Text × List Row) → Type 0
NamesOrder found = (order : Order) × IsOrder found order

-- `clap` finds no fault in the words
abbrev pub AreFaultless : List Text → Type 0
AreFaultless words = fault_of program_app words ≡ []

-- `clap` doesn't take the words, or they name no order
abbrev pub AreRefused : List Text → Type 0
AreRefused words = (takes program_app words ≡ false) ⊎ ¬ NamesOrder (subcommand_of program_app words)

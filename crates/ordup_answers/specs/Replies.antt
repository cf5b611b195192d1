-- What a line is answered.
use Rattle.std.specs.Prelude.{ℕ, List, [], length, nat_lt, if◌then◌else◌, Option, Result, Ok, Err, codes}
use Rattle.ordup_objects.specs.declared.refusal.Refusal.{Refusal}
use Rattle.ordup_objects.specs.declared.refusal.Refusal.TheVariants.{Syntax, NotStarted, AlreadyStarted, UnknownSite}
use Rattle.ordup_primary.specs.Declarations.{Declared, start_refusal}
use Rattle.ordup_world.specs.Events.{Past, later, rounds, windows}
use Rattle.ordup_world.specs.Events.{reply as event_answer}
use Rattle.ordup_world.specs.declared.event.Event.{Event}
use Rattle.ordup_grammar.specs.Lines.{Line}
use Rattle.ordup_grammar.specs.Requests.{Request, request_of, request_by}
use Rattle.ordup_grammar.specs.Requests as request
use Rattle.ordup_grammar.specs.Commands.{Command, Declare, Start, Certify, Act}
use Rattle.ordup_grammar.specs.declared.declaration.Declaration.{Declaration}
use Rattle.ordup_grammar.specs.declared.declaration.Declaration.TheVariants.{Object, Group, Site, Limit}
use Rattle.ordup_answers.specs.Declaring.{with_declaration}
use Rattle.ordup_answers.specs.Events.{event_of, names_of}
use Rattle.ordup_answers.specs.Names.{index_among}
use Rattle.ordup_answers.specs.Refusals.{made_of, unless}
use Rattle.ordup_answers.specs.ScriptStates.{ScriptState, declaring, running}
use Rattle.ordup_answers.specs.Texts.{refused_text, started_text, answer_text, certified_text}
use Rattle.ordup_text.specs.Lines.{named_text}

-- the state after a line, and the answer's text
abbrev pub Reply : Type 0 → Type 0
Reply A = ScriptState A × List ℕ

-- the text of the answer to a declaration
abbrev pub declared_text : Declaration → List ℕ
declared_text (Object name initial) = named_text (codes "ok object ") name
declared_text (Group name members) = named_text (codes "ok group ") name
declared_text (Site name capacity) = named_text (codes "ok site ") name
declared_text (Limit site what amount) = named_text (codes "ok limit ") site

-- the name in that text
abbrev pub declared_name : Declaration → List ℕ
declared_name (Object name initial) = name
declared_name (Group name members) = name
declared_name (Site name capacity) = name
declared_name (Limit site what amount) = site

module _ {A : Type 0} where
  -- the reply to an event by these names: of a site or a query, and of an object
  abbrev pub event_reply : Declared → Past A → List ℕ × List ℕ → Event A → Reply A
  event_reply d past names e =
      let answer = event_answer d past e in
      (running d (later past e answer), answer_text d names.0 names.1 answer)

  -- what comes of asking for the certificate of a site, by its name and its place
  abbrev pub certificate_reply : Declared → Past A → List ℕ → ℕ → Result (Reply A) Refusal
  certificate_reply d past name s =
      if nat_lt s (length d.sites) then Ok (running d past, certified_text name (length (rounds d s past)) (windows d s past))
      else Err UnknownSite

  -- what comes of a command, or why it is refused: declarations and the start come first, all else is for a started store
  abbrev pub command_reply : ScriptState A → Command → Result (Reply A) Refusal
  command_reply (declaring d) (Declare x) = made_of (λ e. (declaring e, declared_text x)) (with_declaration d x)
  command_reply (declaring d) Start = unless (start_refusal d) (running d [], started_text)
  command_reply (declaring d) _ = Err NotStarted
  command_reply (running d past) (Declare x) = Err AlreadyStarted
  command_reply (running d past) Start = Err AlreadyStarted
  command_reply (running d past) (Certify site) = certificate_reply d past site (index_among d.sites site)
  command_reply (running d past) (Act a) = made_of (event_reply d past (names_of a)) (event_of d a)

  -- a refusal leaves the session as it is, and its text is the answer
  abbrev pub reply_or_refusal : ScriptState A → Result (Reply A) Refusal → Reply A
  reply_or_refusal s (Ok given) = given
  reply_or_refusal s (Err r) = (s, refused_text r)

  -- the reply to what a line asks for
  abbrev pub request_reply : ScriptState A → Request → Reply A
  request_reply s request.Nothing = (s, [])
  request_reply s (request.Command c) = reply_or_refusal s (command_reply s c)
  request_reply s request.NoCommand = (s, refused_text Syntax)

  -- the reply to words, by the command that they spell, if they spell one
  abbrev pub words_reply : ScriptState A → Option Command → Reply A
  words_reply s c = request_reply s (request_by c)

-- the reply to a line
unfoldable pub reply : {A : Type 0} → ScriptState A → Line → Reply A
reply s line = request_reply s (request_of line)

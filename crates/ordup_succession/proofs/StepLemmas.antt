-- What each line of a declaration makes of what is declared.
use Rattle.ordup_audit.proofs.Common.{◌<◌, ◌^◌, ◌∙◌, ◌∷◌, ◌≡◌, [], ap, AreDistinct, AreMembersKnown, codes, Count, Everything}
use Rattle.ordup_audit.proofs.Common.{Group, group_refusal, IsScopeKnown, length, List, map, None, Object, object_refusal, Objects}
use Rattle.ordup_audit.proofs.Common.{pos, refl, Scope, unsigned_abs, ℕ, ℤ, All-tail, GroupList}
use Rattle.std.proofs.lemmas.List.Elements.{All-head}
use Rattle.std.proofs.Common.{Option, option_map, Result, Ok}
use Rattle.ordup_objects.specs.declared.refusal.Refusal.{Refusal}
use Rattle.ordup_grammar.specs.Commands.{Declare}
use Rattle.ordup_grammar.specs.Keywords.{keyword_of}
use Rattle.ordup_grammar.specs.Requests.{Command, Request, request_by, request_by_words}
use Rattle.ordup_grammar.specs.declared.declaration.Declaration.{Declaration}
use Rattle.ordup_grammar.specs.declared.declaration.Declaration.TheVariants as word
use Rattle.ordup_grammar.specs.declared.declaration.ScopeWord.{ScopeWord}
use Rattle.ordup_grammar.specs.declared.declaration.ScopeWord.TheVariants as scope
use Rattle.ordup_grammar.proofs.Decimals.{number_of-signed_decimal}
use Rattle.ordup_limits.specs.declared.limit.Limit.{Limit}
use Rattle.ordup_primary.specs.Declarations.{Declared, start_refusal, site_limit_refusal, site_refusal, with_group, with_limit, with_object, with_site}
use Rattle.ordup_answers.specs.Declaring.{with_declaration}
use Rattle.ordup_answers.specs.Names.{index_among, indices_among, scope_in}
use Rattle.ordup_answers.specs.Refusals.{made_of, unless}
use Rattle.ordup_answers.specs.Replies.{declared_text, reply_or_refusal, request_reply}
use Rattle.ordup_answers.specs.Texts.{started_text}
use Rattle.ordup_answers.specs.ScriptStates.{ScriptState, declaring, running}
use Rattle.ordup_rows.specs.Rows.{name_at}
use Rattle.ordup_rows.proofs.Names.{index_of-name}
use Rattle.ordup_succession.specs.DeclaringLines.{group_words, limit_words, object_words, site_words}

-- ---- names

-- a name of a table is found where it stands
index_named : {V : Type 0} (table : List (List ℕ × V)) (i : ℕ) → AreDistinct table → i < length table
    → index_among table (name_at table i) ≡ i
index_named table i distinct lt = rw (index_of-name table i distinct lt) refl

indices_named : (objects : Objects) (members : List ℕ) → AreDistinct objects → AreMembersKnown (length objects) members
    → indices_among objects (map (name_at objects) members) ≡ members
indices_named objects [] distinct known = refl
indices_named objects (m ∷ members) distinct known =
    rw (index_named objects m distinct (All-head (λ x. x < length objects) m members known))
    (ap (λ l. m ∷ l) (indices_named objects members distinct (All-tail (λ x. x < length objects) m members known)))

-- ---- what a line asks for

-- the request of a declaration
abbrev asks : Declaration → Request
asks x = Command (Declare x)

object_asks : (name : List ℕ) (value : ℤ) → unsigned_abs value < 10 ^ 19
    → request_by_words (object_words (name, value)) ≡ asks (word.Object name value)
unfolding keyword_of
object_asks name value small =
    ap (λ n. request_by (option_map (λ d. Declare d) (option_map (λ (p : List ℕ × ℤ). word.Object p.0 p.1) (option_map (λ v. (name, v)) n))))
    (number_of-signed_decimal value small)

group_asks : (objects : Objects) (group : List ℕ × List ℕ)
    → request_by_words (group_words objects group) ≡ asks (word.Group group.0 (map (name_at objects) group.1))
unfolding keyword_of
group_asks objects group = refl

site_asks : (name : List ℕ) (capacity : ℕ) → capacity < 10 ^ 19
    → request_by_words (site_words (name, capacity)) ≡ asks (word.Site name (pos capacity))
unfolding keyword_of
site_asks name capacity small =
    ap (λ n. request_by (option_map (λ d. Declare d) (option_map (λ (p : List ℕ × ℤ). word.Site p.0 p.1) (option_map (λ v. (name, v)) n))))
    (number_of-signed_decimal (pos capacity) small)

-- the word of a scope
abbrev scope_word : Objects → GroupList → Scope → ScopeWord
scope_word objects groups (Object x) = scope.Object (name_at objects x)
scope_word objects groups (Group g) = scope.Group (name_at groups g)
scope_word objects groups Everything = scope.All
scope_word objects groups Count = scope.Count

-- the request of a limit, by what its amount reads as
abbrev limit_asked : List ℕ → Option (ScopeWord × ℤ) → Request
limit_asked site read =
    request_by (option_map (λ d. Declare d) (option_map (λ (l : List ℕ × ScopeWord × ℤ). word.Limit l.0 l.1 l.2)
    (option_map (λ (p : ScopeWord × ℤ). (site, p.0, p.1)) read)))

limit_asks : (objects : Objects) (groups : GroupList) (site : List ℕ) (s : Scope) (amount : ℕ) → amount < 10 ^ 19
    → request_by_words (limit_words objects groups site (record { scope = s; amount = amount }))
    ≡ asks (word.Limit site (scope_word objects groups s) (pos amount))
unfolding keyword_of
limit_asks objects groups site (Object x) amount small =
    ap (λ n. limit_asked site (option_map (λ (p : List ℕ × ℤ). (scope.Object p.0, p.1)) (option_map (λ v. (name_at objects x, v)) n)))
    (number_of-signed_decimal (pos amount) small)
limit_asks objects groups site (Group g) amount small =
    ap (λ n. limit_asked site (option_map (λ (p : List ℕ × ℤ). (scope.Group p.0, p.1)) (option_map (λ v. (name_at groups g, v)) n)))
    (number_of-signed_decimal (pos amount) small)
limit_asks objects groups site Everything amount small =
    ap (λ n. limit_asked site (option_map (λ v. (scope.All, v)) n)) (number_of-signed_decimal (pos amount) small)
limit_asks objects groups site Count amount small =
    ap (λ n. limit_asked site (option_map (λ v. (scope.Count, v)) n)) (number_of-signed_decimal (pos amount) small)

-- ---- what a line makes

scope_found : (d : Declared) (s : Scope) → AreDistinct d.objects → AreDistinct d.groups → IsScopeKnown (length d.objects) d.groups s
    → scope_in d (scope_word d.objects d.groups s) ≡ s
scope_found d (Object x) objects groups known = ap (λ i. Object i) (index_named d.objects x objects known)
scope_found d (Group g) objects groups known = ap (λ i. Group i) (index_named d.groups g groups known)
scope_found d Everything objects groups known = refl
scope_found d Count objects groups known = refl

module _ {A : Type 0} where
  -- the state after a line of words
  abbrev pub after_line : ScriptState A → List (List ℕ) → ScriptState A
  after_line s words = (request_reply s (request_by_words words)).0

  -- a declaration that is allowed is made
  declares : (d next : Declared) (words : List (List ℕ)) (x : Declaration) → request_by_words words ≡ asks x
      → with_declaration d x ≡ Ok next
      → after_line (declaring d) words ≡ declaring next
  declares d next words x asked allowed =
      ap (λ r. (request_reply {A = A} (declaring d) r).0) asked
      ∙ ap (λ r. (reply_or_refusal {A = A} (declaring d) (made_of (λ e. (declaring e, declared_text x)) r)).0) allowed

  pub object_line : (d : Declared) (object : List ℕ × ℤ) → unsigned_abs object.1 < 10 ^ 19
      → object_refusal d.objects object.0 object.1 ≡ None
      → after_line (declaring d) (object_words object) ≡ declaring (with_object d object.0 object.1)
  object_line d object small none =
      declares d (with_object d object.0 object.1) (object_words object) (word.Object object.0 object.1)
      (object_asks object.0 object.1 small) (ap (λ r. unless r (with_object d object.0 object.1)) none)

  pub group_line : (d : Declared) (group : List ℕ × List ℕ) → AreDistinct d.objects → AreMembersKnown (length d.objects) group.1
      → group_refusal (length d.objects) d.groups group.0 group.1 ≡ None
      → after_line (declaring d) (group_words d.objects group) ≡ declaring (with_group d group.0 group.1)
  group_line d group distinct known none =
      let makes : List ℕ → Result Declared Refusal = λ members.
      unless (group_refusal (length d.objects) d.groups group.0 members) (with_group d group.0 members) in
      declares d (with_group d group.0 group.1) (group_words d.objects group) (word.Group group.0 (map (name_at d.objects) group.1))
      (group_asks d.objects group)
      (ap makes (indices_named d.objects group.1 distinct known) ∙ ap (λ r. unless r (with_group d group.0 group.1)) none)

  pub site_line : (d : Declared) (site : List ℕ × ℕ) → site.1 < 10 ^ 19 → site_refusal d.sites site.0 site.1 ≡ None
      → after_line (declaring d) (site_words site) ≡ declaring (with_site d site.0 site.1)
  site_line d site small none =
      declares d (with_site d site.0 site.1) (site_words site) (word.Site site.0 (pos site.1)) (site_asks site.0 site.1 small)
      (ap (λ r. unless r (with_site d site.0 site.1)) none)

  pub limit_line : (d : Declared) (s : ℕ) (l : Limit) → AreDistinct d.objects → AreDistinct d.groups → AreDistinct d.sites
      → s < length d.sites → IsScopeKnown (length d.objects) d.groups l.scope → l.amount < 10 ^ 19
      → site_limit_refusal d s l.scope l.amount ≡ None
      → after_line (declaring d) (limit_words d.objects d.groups (name_at d.sites s) l) ≡ declaring (with_limit d s l.scope l.amount)
  limit_line d s l objects groups sites there known small none =
      let makes : ℕ → Scope → Result Declared Refusal = λ at what. unless (site_limit_refusal d at what l.amount) (with_limit d at what l.amount) in
      let what : ScopeWord = scope_word d.objects d.groups l.scope in
      declares d (with_limit d s l.scope l.amount) (limit_words d.objects d.groups (name_at d.sites s) l)
      (word.Limit (name_at d.sites s) what (pos l.amount)) (limit_asks d.objects d.groups (name_at d.sites s) l.scope l.amount small)
      (ap (λ i. makes i (scope_in d what)) (index_named d.sites s sites there)
      ∙ ap (makes s) (scope_found d l.scope objects groups known)
      ∙ ap (λ r. unless r (with_limit d s l.scope l.amount)) none)

  pub start_line : (d : Declared) → start_refusal d ≡ None → after_line (declaring d) (codes "start" ∷ []) ≡ running d []
  unfolding keyword_of
  start_line d ready = ap (λ r. (reply_or_refusal {A = A} (declaring d) (unless r (running d [], started_text))).0) ready

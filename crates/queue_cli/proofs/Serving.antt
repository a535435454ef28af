-- A run over a stream, item by item.
use Rattle.std.proofs.Common.{◌≡◌, ◌+◌, ◌≤◌, inl, inr, ℕ, true, List, [], ◌∷◌, ◌++◌, length, length-append, drop, Option, None, Some, IfSome, refl, ap, sym, ◌∙◌, subst, arith, append_assoc, append-nil}
use Rattle.std.specs.Io.KnownBytes.{Appends, Consumes, prepend_known}
use Rattle.std.proofs.KnownBytes.{Appends-nil, Appends-trans, Consumes-nil, Consumes-trans}
use Rattle.std.proofs.lemmas.Fn.{FoldsTo-push}
use Rattle.std.proofs.lemmas.Grind.{flat_map-append}
use Rattle.std.proofs.lemmas.List.{map_push}
use Rattle.sq_outside.specs.Fault.{Rose}
use Rattle.sq_outside.specs.Streams.{SinkState, SourceState}
use Rattle.http_wire.specs.Reply.{AppendsPrefix}
use Rattle.http_wire.specs.Stream.{HasReadAll, IsPastLimit}
use Rattle.journal_replay.specs.Kept.{AreKeptFor}
use Rattle.queue_engine.specs.Running.{Store, running}
use Rattle.queue_engine.specs.Standing.{StandsOn}
use Rattle.queue_http.specs.Service.{DiskState, Service, service}
use Rattle.queue_model.specs.GoodWorld.{IsGood}
use Rattle.situation_model.specs.Situations.{Doubt}
use Rattle.queue_cli.specs.declared.end.End.{End}
use Rattle.queue_cli.specs.declared.end.End.TheVariants.{Done, BadInput, BadLine, ReadFault, WriteFault, NoMemory, InputTooLong}
use Rattle.queue_cli.specs.Answering.{AnswersFrom, AnswersPrefix, AreAnswered, AreItems, CountsFaults, EndsFor, Exchange, IsAnswered, IsRefusedAt, Session, WritesReplies, items_of, most_taken, reply_texts, session}
use Rattle.queue_cli.specs.LastText.{last_text, IsReported, IsUnreported, WritesLast, Reports}
use Rattle.queue_cli.specs.Protocol.{Protocol}
use Rattle.queue_cli.proofs.Ends.{nothing}
use Rattle.queue_cli.proofs.Items.{IsReadOneWay, items_then, pending_at}
use Rattle.queue_cli.proofs.Leaving.{Leaving, at_first, faults_on, prefixes}

-- ---- what a call takes of its input

-- bytes that were read and not yet used, and the place of the first of them in the input
pub record Ahead : Type 0 where
  pub bytes : List ℕ
  pub at : ℕ

abbrev pub taken_of : Ahead → ℕ
taken_of ahead = ahead.at + length ahead.bytes

-- so much was read of a source
pub record Reads (old : SourceState) (read : List ℕ) (new : SourceState) : Type 0 where
  pub consumed : Consumes old.left new.left read
  pub count : old.faults ≤ new.faults

-- the item that stood first was taken, and what is ahead follows it
pub record TakesItem (p : Protocol) (ahead : Ahead) (old : SourceState) (item : p.Item) (ahead' : Ahead) (new : SourceState) : Type 0 where
  pub read : List ℕ
  pub reads : Reads old read new
  pub is_item : p.IsItem (ahead.bytes ++ read) item ahead'.bytes
  pub place : taken_of ahead' ≡ taken_of ahead + length read
  pub within : taken_of ahead' ≤ 1073741824

-- what stands ahead is refused
pub record IsRefusedAhead (p : Protocol) (end : End) (ahead : Ahead) (old : SourceState) : Type 0 where
  pub refusal : p.Refusal
  pub end_is : end ≡ p.refusal_end ahead.at refusal
  pub refused : IfSome (prepend_known ahead.bytes old.left) (λ bytes. p.IsRefused bytes refusal)

-- why no item was taken after so much was read
abbrev pub HasCause : (p : Protocol) → Ahead → (old : SourceState) → (read : List ℕ) → (new : SourceState) → End → Type 0
HasCause p ahead old read new Done = p.IsEnd (ahead.bytes ++ read) × HasReadAll old.left read
HasCause p ahead old read new (BadInput at refusal) = IsRefusedAhead p (BadInput at refusal) ahead old
HasCause p ahead old read new (BadLine at) = IsRefusedAhead p (BadLine at) ahead old
HasCause p ahead old read new ReadFault = Rose old.faults new.faults × p.IsUnfinished (ahead.bytes ++ read)
HasCause p ahead old read new NoMemory = Unit {0}
HasCause p ahead old read new InputTooLong = IsPastLimit (taken_of ahead) read (λ prefix. p.IsUnfinished (ahead.bytes ++ prefix))
HasCause p ahead old read new _ = ⊥

pub record TakesNone (p : Protocol) (ahead : Ahead) (old : SourceState) (end : End) (new : SourceState) : Type 0 where
  pub read : List ℕ
  pub reads : Reads old read new
  pub within : taken_of ahead + length read ≤ most_taken end
  pub cause : HasCause p ahead old read new end

-- ---- what holds between two items

-- the items before the bytes ahead were answered
pub record Answering (p : Protocol) (old new : Session) (ahead : Ahead) : Type 0 where
  pub taken : List ℕ
  pub exchanges : List (Exchange p)
  pub consumed : Consumes old.input.left new.input.left taken
  pub place : length taken ≡ taken_of ahead
  pub items : AreItems p taken (items_of exchanges) ahead.bytes
  pub answers : AreAnswered old.service exchanges new.service
  pub leaves : Leaving old.service new.service
  pub faults : CountsFaults old.service exchanges new.service
  pub reads : old.input.faults ≤ new.input.faults

-- and their replies were written
pub record Serving (p : Protocol) (old new : Session) (ahead : Ahead) : Type 0 where
  pub answering : Answering p old new ahead
  pub written : Appends old.output.written new.output.written (reply_texts answering.exchanges)
  pub writes : old.output.faults ≤ new.output.faults

-- it holds on an engine that stands on the disk, with this record in doubt or none
pub record ServingOn (p : Protocol) (old : Session) (engine : Store) (moments : Option (List ℕ)) (disk : DiskState) (input : SourceState) (output : SinkState) (ahead : Ahead) : Type 0 where
  pub doubt : Doubt
  pub stands : StandsOn engine doubt disk.history
  pub serving : Serving p old (session (service (running engine doubt) moments disk) input output) ahead

pub at_start : (p : Protocol) (old : Session) (ahead : Ahead) → ahead.bytes ≡ [] → ahead.at ≡ 0
    → IfSome old.service.disk.history (λ h. AreKeptFor old.service.running.situation.book.world old.service.running.situation.doubt h.now) → Serving p old old ahead
at_start p old ahead none first kept = record {
  answering = record {
    taken = [];
    exchanges = [];
    consumed = Consumes-nil old.input.left;
    place = omega (arith, first, ap length none);
    items = sym none;
    answers = refl;
    leaves = at_first old.service kept;
    faults = omega arith;
    reads = omega arith;
  };
  written = Appends-nil old.output.written;
  writes = omega arith;
}

length_then : (taken read : List ℕ) (n m : ℕ) → length taken ≡ n → m ≡ n + length read → length (taken ++ read) ≡ m
length_then taken read n m is more = omega (arith, is, more, length-append taken read)

rose_from : (first before after : ℕ) → first ≤ before → Rose before after → Rose first after
rose_from first before after le rose = grind arith

-- ---- one more item

-- what its answer does
pub record IsSound (p : Protocol) : Type 0 where
  pub leaves : (first old new : Service) (item : p.Item) (reply : p.Reply) → p.Answers old item reply new → Leaving first old → Leaving first new
  pub faults : (old new : Service) (item : p.Item) (reply : p.Reply) → p.Answers old item reply new → p.is_fault reply ≡ true → Rose old.disk.faults new.disk.faults

-- it is answered, and what comes of the answer
pub record Exchanged (p : Protocol) (old : Service) (exchange : Exchange p) (new : Service) : Type 0 where
  pub answered : IsAnswered p old exchange new
  pub leaves : (first : Service) → Leaving first old → Leaving first new
  pub faults : (first : Service) (exchanges : List (Exchange p)) → CountsFaults first exchanges old → CountsFaults first (exchanges ++ exchange ∷ []) new

-- and the engine stands on the disk then, with this record in doubt or none
pub record ExchangedOn (p : Protocol) (old : Service) (exchange : Exchange p) (engine : Store) (moments : Option (List ℕ)) (disk : DiskState) : Type 0 where
  pub doubt : Doubt
  pub stands : StandsOn engine doubt disk.history
  pub exchanged : Exchanged p old exchange (service (running engine doubt) moments disk)

pub exchanged_on : (p : Protocol) → IsSound p → (old : Service) (exchange : Exchange p) (engine : Store) (doubt : Doubt) (moments : Option (List ℕ)) (disk : DiskState)
    → p.Answers old exchange.item exchange.reply (service (running engine doubt) moments disk) → StandsOn engine doubt disk.history → IsGood engine.book.world → old.disk.faults ≤ disk.faults
    → ExchangedOn p old exchange engine moments disk
exchanged_on p sound old exchange engine doubt moments disk answers stands good later =
    let new = service (running engine doubt) moments disk in
    record {
      doubt = doubt;
      stands = stands;
      exchanged = record {
        answered = record { answers = answers; good = good; kept = stands.kept };
        leaves = λ first so_far. sound.leaves first old new exchange.item exchange.reply answers so_far;
        faults = λ first exchanges so_far. faults_on p first old new exchanges exchange so_far later (sound.faults old new exchange.item exchange.reply answers);
      };
    }

module _ (p : Protocol) (one_way : IsReadOneWay p) (old mid new : Session) (ahead : Ahead) where
  abbrev answered_more : (ahead' : Ahead) (exchange : Exchange p) → Answering p old mid ahead → TakesItem p ahead mid.input exchange.item ahead' new.input → Exchanged p mid.service exchange new.service → Answering p old new ahead'
  answered_more ahead' exchange answering takes answers = record {
    taken = answering.taken ++ takes.read;
    exchanges = answering.exchanges ++ exchange ∷ [];
    consumed = Consumes-trans old.input.left mid.input.left new.input.left answering.taken takes.read answering.consumed takes.reads.consumed;
    place = length_then answering.taken takes.read (taken_of ahead) (taken_of ahead') answering.place takes.place;
    items = (
        let P : List p.Item → Type 0 = λ items. AreItems p (answering.taken ++ takes.read) items ahead'.bytes in
        subst P (sym (map_push (λ (exchange : Exchange p). exchange.item) answering.exchanges exchange))
        (FoldsTo-push p.IsItem (answering.taken ++ takes.read) (items_of answering.exchanges) (ahead.bytes ++ takes.read) exchange.item ahead'.bytes
        (items_then p one_way answering.taken (items_of answering.exchanges) ahead.bytes takes.read answering.items) takes.is_item)
        );
    answers = FoldsTo-push (IsAnswered p) old.service answering.exchanges mid.service exchange new.service answering.answers answers.answered;
    leaves = answers.leaves old.service answering.leaves;
    faults = answers.faults old.service answering.exchanges answering.faults;
    reads = omega (arith, answering.reads, takes.reads.count);
  }

  texts_push : (exchanges : List (Exchange p)) (exchange : Exchange p) → reply_texts (exchanges ++ exchange ∷ []) ≡ reply_texts exchanges ++ p.text exchange.reply
  texts_push exchanges exchange =
      flat_map-append (λ (exchange : Exchange p). p.text exchange.reply) exchanges (exchange ∷ []) ∙ ap (λ w. reply_texts exchanges ++ w) (append-nil (p.text exchange.reply))

  -- its reply is written
  serve_more : (ahead' : Ahead) (exchange : Exchange p) → Serving p old mid ahead → TakesItem p ahead mid.input exchange.item ahead' new.input → Exchanged p mid.service exchange new.service
      → Appends mid.output.written new.output.written (p.text exchange.reply) → mid.output.faults ≤ new.output.faults → Serving p old new ahead'
  serve_more ahead' exchange serving takes answers written writes = record {
    answering = answered_more ahead' exchange serving.answering takes answers;
    written = (
        let P : List ℕ → Type 0 = Appends old.output.written new.output.written in
        subst P (sym (texts_push serving.answering.exchanges exchange))
        (Appends-trans old.output.written mid.output.written new.output.written (reply_texts serving.answering.exchanges) (p.text exchange.reply) serving.written written)
        );
    writes = omega (arith, serving.writes, writes);
  }

  -- its reply can't be written
  unwritten : (ahead' : Ahead) (exchange : Exchange p) → Serving p old mid ahead → TakesItem p ahead mid.input exchange.item ahead' new.input → Exchanged p mid.service exchange new.service
      → AppendsPrefix mid.output.written new.output.written (p.text exchange.reply) → Rose mid.output.faults new.output.faults → AnswersPrefix p old new WriteFault
  unwritten ahead' exchange serving takes answers part rose =
      let answering = answered_more ahead' exchange serving.answering takes answers in
      let failed = rose_from old.output.faults mid.output.faults new.output.faults serving.writes rose in
      record {
        taken = answering.taken;
        exchanges = answering.exchanges;
        pending = ahead'.bytes;
        consumed = answering.consumed;
        within = omega (arith, answering.place, takes.within);
        items = answering.items;
        answers = answering.answers;
        leaves = prefixes old.service new.service answering.leaves;
        faults = answering.faults;
        written = record {
          before = serving.answering.exchanges;
          last = exchange;
          exchanges_are = refl;
          written = record {
            part = part.prefix;
            after = part.rest;
            parts = part.parts;
            written = Appends-trans old.output.written mid.output.written new.output.written (reply_texts serving.answering.exchanges) part.prefix serving.written part.added;
            whole = inr failed;
          };
          fault = failed;
        };
        cause = tt;
      }

-- ---- the end

-- what is read to the end after what was taken is all of the input
all_read : (left mid : Option (List ℕ)) (taken read : List ℕ) → Consumes left mid taken → HasReadAll mid read → HasReadAll left (taken ++ read)
all_read None mid taken read consumed all = tt
all_read (Some bytes) None taken read consumed all = absurd consumed
all_read (Some bytes) (Some rest) taken read consumed all = consumed ∙ ap (λ w. taken ++ w) all

last_then : (old mid new : SinkState) (first last : List ℕ) → Appends old.written mid.written first → old.faults ≤ mid.faults → WritesLast mid new [] last → WritesLast old new first last
last_then old mid new first last added le written = record {
  part = written.part;
  after = written.after;
  parts = written.parts;
  written = Appends-trans old.written mid.written new.written first written.part added written.written;
  whole = elim written.whole [ inl none ↦ inl none | inr rose ↦ inr (rose_from old.faults mid.faults new.faults le rose) ];
}

module _ (p : Protocol) (one_way : IsReadOneWay p) where
  -- what is refused after the answered items is refused in the whole input
  refused_whole : (left mid : Option (List ℕ)) (ahead : Ahead) (taken : List ℕ) (items : List p.Item) (refusal : p.Refusal) → Consumes left mid taken → AreItems p taken items ahead.bytes → length taken ≡ taken_of ahead
      → IfSome (prepend_known ahead.bytes mid) (λ bytes. p.IsRefused bytes refusal) → IfSome left (λ bytes. p.IsRefused (drop ahead.at bytes) refusal)
  refused_whole None mid ahead taken items refusal consumed are place refused = tt
  refused_whole (Some bytes) None ahead taken items refusal consumed are place refused = absurd consumed
  refused_whole (Some bytes) (Some left) ahead taken items refusal consumed are place refused =
      let pending = pending_at p one_way ahead.at taken items ahead.bytes left are (omega (arith, place)) in
      let P : List ℕ → Type 0 = λ bytes. p.IsRefused bytes refusal in
      subst P (sym (ap (drop ahead.at) consumed ∙ pending)) refused

  refused_at : (old mid : Session) (ahead : Ahead) (read : List ℕ) (end : End) → (answering : Answering p old mid ahead) → IsRefusedAhead p end ahead mid.input → IsRefusedAt p end old.input (answering.taken ++ read) (ahead.bytes ++ read)
  refused_at old mid ahead read end answering refused = record {
    at = ahead.at;
    refusal = refused.refusal;
    end_is = refused.end_is;
    place = (let whole = length_then answering.taken read (taken_of ahead) (taken_of ahead + length read) answering.place refl in omega (arith, whole, length-append ahead.bytes read));
    refused = refused_whole old.input.left mid.input.left ahead answering.taken (items_of answering.exchanges) refused.refusal answering.consumed answering.items answering.place refused.refused;
  }

  -- the cause is one over the whole input
  ends_for : (old mid : Session) (ahead : Ahead) (read : List ℕ) (new : SourceState) (end : End) → (answering : Answering p old mid ahead) → HasCause p ahead mid.input read new end
      → EndsFor p old.input new (answering.taken ++ read) (ahead.bytes ++ read) end
  ends_for old mid ahead read new Done answering (end, all) = (end, all_read old.input.left mid.input.left answering.taken read answering.consumed all)
  ends_for old mid ahead read new (BadInput at refusal) answering refused = refused_at old mid ahead read (BadInput at refusal) answering refused
  ends_for old mid ahead read new (BadLine at) answering refused = refused_at old mid ahead read (BadLine at) answering refused
  ends_for old mid ahead read new ReadFault answering (rose, partly) = (rose_from old.input.faults mid.input.faults new.faults answering.reads rose, partly)
  ends_for old mid ahead read new NoMemory answering cause = tt
  ends_for old mid ahead read new InputTooLong answering past = record {
    within = ahead.bytes ++ past.prefix;
    extra = past.extra;
    parts = ap (λ w. ahead.bytes ++ w) past.parts ∙ sym (append_assoc ahead.bytes past.prefix (past.extra ∷ []));
    full = (
        let whole = length_then answering.taken read (taken_of ahead) (taken_of ahead + length read) answering.place refl in
        let lengths = ap length past.parts ∙ length-append past.prefix (past.extra ∷ []) in
        omega (arith, whole, lengths, past.full)
        );
    unfinished = past.so;
  }
  ends_for old mid ahead read new other answering cause = absurd cause

  writes_replies : (old new : SinkState) (exchanges : List (Exchange p)) (ahead : Ahead) (input : SourceState) (read : List ℕ) (input' : SourceState) (end : End) → HasCause p ahead input read input' end
      → WritesLast old new (reply_texts exchanges) (last_text end) → WritesReplies old new exchanges end
  writes_replies old new exchanges ahead input read input' WriteFault cause written = absurd cause
  writes_replies old new exchanges ahead input read input' other cause written = written

  -- no item was taken, and the end with its last text comes
  reported : (old mid new : Session) (ahead : Ahead) (end : End) → Serving p old mid ahead → TakesNone p ahead mid.input end new.input → mid.service ≡ new.service
      → WritesLast mid.output new.output [] (last_text end) → AnswersPrefix p old new end
  reported old mid new ahead end serving takes same written =
      let answering = serving.answering in
      let read = takes.read in
      record {
        taken = answering.taken ++ read;
        exchanges = answering.exchanges;
        pending = ahead.bytes ++ read;
        consumed = Consumes-trans old.input.left mid.input.left new.input.left answering.taken read answering.consumed takes.reads.consumed;
        within = (let whole = length_then answering.taken read (taken_of ahead) (taken_of ahead + length read) answering.place refl in rw whole takes.within);
        items = items_then p one_way answering.taken (items_of answering.exchanges) ahead.bytes read answering.items;
        answers = (let P : Service → Type 0 = AreAnswered old.service answering.exchanges in subst P same answering.answers);
        leaves = (let P : Service → Type 0 = Leaving old.service in prefixes old.service new.service (subst P same answering.leaves));
        faults = (let P : Service → Type 0 = CountsFaults old.service answering.exchanges in subst P same answering.faults);
        written = writes_replies old.output new.output answering.exchanges ahead mid.input read new.input end takes.cause
            (last_then old.output mid.output new.output (reply_texts answering.exchanges) (last_text end) serving.written serving.writes written);
        cause = ends_for old mid ahead read new.input end answering takes.cause;
      }

  module _ (old mid new : Session) (ahead : Ahead) (end : End) (serving : Serving p old mid ahead) (same : mid.service ≡ new.service) where
    by_report : (found : End) → TakesNone p ahead mid.input found new.input → IsReported mid.output new.output found end → AnswersPrefix p old new end
    by_report found takes is = let P : End → Type 0 = AnswersPrefix p old new in subst P (sym is.same) (reported old mid new ahead found serving takes same is.written)

    -- there is no memory for its last text
    by_memory : (read : List ℕ) → Reads mid.input read new.input → taken_of ahead + length read ≤ 1073741824 → IsUnreported mid.output new.output end → AnswersPrefix p old new end
    by_memory read reads within none =
        let takes : TakesNone p ahead mid.input NoMemory new.input = record { read = read; reads = reads; within = within; cause = tt } in
        by_report NoMemory takes (record { same = none.memory; written = nothing mid.output new.output none.output })

    -- no item was taken, and this is reported
    ends : (found : End) → TakesNone p ahead mid.input found new.input → Reports mid.output new.output found end → AnswersPrefix p old new end
    ends Done takes is = by_report Done takes is
    ends (BadInput at refusal) takes (inl is) = by_report (BadInput at refusal) takes is
    ends (BadInput at refusal) takes (inr none) = by_memory takes.read takes.reads takes.within none
    ends (BadLine at) takes (inl is) = by_report (BadLine at) takes is
    ends (BadLine at) takes (inr none) = by_memory takes.read takes.reads takes.within none
    ends ReadFault takes is = by_report ReadFault takes is
    ends NoMemory takes is = by_report NoMemory takes is
    ends InputTooLong takes is = by_report InputTooLong takes is
    ends other takes is = absurd takes.cause

-- ---- over an engine that stands on the disk

module _ (p : Protocol) (one_way : IsReadOneWay p) (first : Session) (engine : Store) (moments : Option (List ℕ)) (disk : DiskState) (input input' : SourceState) (output output' : SinkState) (ahead : Ahead)
    (on : ServingOn p first engine moments disk input output ahead) where
  abbrev mid : Session
  mid = session (service (running engine on.doubt) moments disk) input output

  module _ (exchange : Exchange p) (engine' : Store) (moments' : Option (List ℕ)) (disk' : DiskState) (ahead' : Ahead) (takes : TakesItem p ahead input exchange.item ahead' input')
      (next : ExchangedOn p mid.service exchange engine' moments' disk') where
    abbrev new : Session
    new = session (service (running engine' next.doubt) moments' disk') input' output'

    -- one more item is answered, and its reply is written
    pub written_on : Appends output.written output'.written (p.text exchange.reply) → output.faults ≤ output'.faults → ServingOn p first engine' moments' disk' input' output' ahead'
    written_on written writes = record {
      doubt = next.doubt;
      stands = next.stands;
      serving = serve_more p one_way first mid new ahead ahead' exchange on.serving takes next.exchanged written writes;
    }

    -- or it can't be written
    pub unwritten_on : AppendsPrefix output.written output'.written (p.text exchange.reply) → Rose output.faults output'.faults → AnswersFrom p first input' output' disk' moments' WriteFault
    unwritten_on part rose = record {
      running = running engine' next.doubt;
      answers = unwritten p one_way first mid new ahead ahead' exchange on.serving takes next.exchanged part rose;
      kept = next.stands.kept;
    }

  -- no item was taken, and this is reported
  pub ends_on : (end found : End) → TakesNone p ahead input found input' → Reports output output' found end → AnswersFrom p first input' output' disk moments end
  ends_on end found takes reports = record {
    running = running engine on.doubt;
    answers = ends p one_way first mid (session (service (running engine on.doubt) moments disk) input' output') ahead end on.serving refl found takes reports;
    kept = on.stands.kept;
  }

  -- and nothing is written
  pub done_on : TakesNone p ahead input Done input' → output ≡ output' → AnswersFrom p first input' output' disk moments Done
  done_on takes same = ends_on Done Done takes (record { same = refl; written = nothing output output' same })

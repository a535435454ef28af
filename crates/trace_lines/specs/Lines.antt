-- The lines of a trace, form by form.
use Rattle.std.specs.Prelude.{ℕ, ◌&&◌, ◌==◌, List, [], ◌∷◌, length, nat_le, codes, Option, Result, Ok, Err, if◌then◌else◌, ◌≡◌, Some, None}
use Rattle.std.specs.List.{slice_split}
use Rattle.std.specs.Result.{result_ok}
use Rattle.std.specs.Str.{is_utf8}
use Rattle.job_states.specs.Judged.{◌>>=◌}
use Rattle.job_states.specs.declared.command.Command.{Command}
use Rattle.job_states.specs.declared.command.Command.TheVariants as command
use Rattle.trace_lines.specs.declared.line.Line.{Line}
use Rattle.trace_lines.specs.declared.line.Line.TheVariants as line
use Rattle.trace_lines.specs.declared.line.LineFault.{LineFault}
use Rattle.trace_lines.specs.declared.line.LineFault.TheVariants.{NotALine, NoMemory}
use Rattle.trace_lines.specs.Jobs.{job_of}
use Rattle.trace_lines.specs.Words.{Judged, by_word, number_of, limit_of, name_of, kind_of, queues_of, moment_of, seat_of}

-- ---- commands, by how many words stand after their own

abbrev pub alone : List ℕ → Judged Command
alone name = by_word name
    ((codes "dispatch", Ok command.Dispatch)
    ∷ (codes "expire", Ok command.Expire)
    ∷ (codes "unblock", Ok command.Unblock)
    ∷ (codes "prune", Ok command.Prune)
    ∷ (codes "clear", Ok command.ClearFinished)
    ∷ [])

abbrev pub with_one : (name word : List ℕ) → Judged Command
with_one name word = by_word name
    ((codes "beat", number_of word >>= λ pid. Ok (command.Beat pid))
    ∷ (codes "deregister", number_of word >>= λ pid. Ok (command.Deregister pid))
    ∷ (codes "retry", number_of word >>= λ id. Ok (command.Retry id))
    ∷ (codes "discard", number_of word >>= λ id. Ok (command.Discard id))
    ∷ (codes "pause", name_of word >>= λ queue. Ok (command.Pause queue))
    ∷ (codes "resume", name_of word >>= λ queue. Ok (command.Resume queue))
    ∷ (codes "run", name_of word >>= λ task. Ok (command.RunNow task))
    ∷ [])

abbrev pub with_two : (name first second : List ℕ) → Judged Command
with_two name first second = by_word name
    ((codes "register", kind_of first >>= λ kind. name_of second >>= λ own. Ok (command.Register kind own))
    ∷ (codes "done", number_of first >>= λ pid. number_of second >>= λ id. Ok (command.Done pid id))
    ∷ (codes "release", number_of first >>= λ pid. number_of second >>= λ id. Ok (command.Release pid id))
    ∷ (codes "tick", number_of first >>= λ pid. name_of second >>= λ task. Ok (command.Tick pid task))
    ∷ [])

abbrev pub poll_of : (pid limit queues : List ℕ) → Judged Command
poll_of pid limit queues = number_of pid >>= λ n. limit_of limit >>= λ most. queues_of queues >>= λ list. Ok (command.Poll n list most)

-- the error that a job raised comes with an empty message
abbrev pub with_three : (name first second third : List ℕ) → Judged Command
with_three name first second third = by_word name
    ((codes "poll", poll_of first second third)
    ∷ (codes "raised", number_of first >>= λ pid. number_of second >>= λ id. name_of third >>= λ error. Ok (command.Raised pid id error []))
    ∷ [])

abbrev pub with_job : (name class queue priority argument at : List ℕ) → Judged Command
with_job name class queue priority argument at = by_word name ((codes "enqueue", job_of class queue priority argument at >>= λ job. Ok (command.Enqueue job)) ∷ [])

-- no command has another number of words
abbrev pub command_of : List (List ℕ) → Judged Command
command_of (name ∷ []) = alone name
command_of (name ∷ word ∷ []) = with_one name word
command_of (name ∷ first ∷ second ∷ []) = with_two name first second
command_of (name ∷ first ∷ second ∷ third ∷ []) = with_three name first second third
command_of (name ∷ class ∷ queue ∷ priority ∷ argument ∷ at ∷ []) = with_job name class queue priority argument at
command_of words = Err NotALine

-- ---- lines

abbrev pub reopening : List ℕ → Judged Line
reopening word = by_word word ((codes "reopen", Ok line.Reopen) ∷ [])

-- the end of what is open at a seat
abbrev pub ending : (seat end : List ℕ) → Judged Line
ending seat end = by_word end
    ((codes "commit", seat_of seat >>= λ n. Ok (line.Commit n))
    ∷ (codes "rollback", seat_of seat >>= λ n. Ok (line.Rollback n))
    ∷ [])

-- a command at a seat
abbrev pub beginning : (moment seat verb : List ℕ) → List (List ℕ) → Judged Line
beginning moment seat verb words = by_word verb
    ((codes "begin", moment_of moment >>= λ m. seat_of seat >>= λ n. command_of words >>= λ asked. Ok (line.Begin m n asked))
    ∷ (codes "do", moment_of moment >>= λ m. seat_of seat >>= λ n. command_of words >>= λ asked. Ok (line.Do m n asked))
    ∷ [])

abbrev pub line_of_words : List (List ℕ) → Judged Line
line_of_words [] = Err NotALine
line_of_words (word ∷ []) = reopening word
line_of_words (seat ∷ end ∷ []) = ending seat end
line_of_words (moment ∷ seat ∷ verb ∷ words) = beginning moment seat verb words

-- one space separates two words
abbrev pub words_of : List ℕ → List (List ℕ)
words_of bytes = slice_split (λ b. b == 32) bytes

-- at most 4096 bytes of UTF-8
abbrev pub judged_line : List ℕ → Judged Line
judged_line bytes = if nat_le (length bytes) 4096 && is_utf8 bytes then line_of_words (words_of bytes) else Err NotALine

-- the line that the bytes spell, if they spell one
abbrev pub line_of : List ℕ → Option Line
line_of bytes = result_ok (judged_line bytes)

-- what a call reads is what is spelled; want of memory may come in place of either
abbrev pub Reads : Result Line LineFault → Option Line → Type 0
Reads (Ok found) spelled = spelled ≡ Some found
Reads (Err NotALine) spelled = spelled ≡ None
Reads (Err NoMemory) spelled = Unit {0}

-- What a heap counts.
use Rattle.exact_heap.specs.declared.counts.Counts.{Counts}
use Rattle.exact_heap.specs.History.{History, clock_of, frees_of}

abbrev pub no_counts : Counts
no_counts = record { clock = 0; frees = 0; calls = 0 }

-- what is counted of a history
abbrev pub counts_of : History → Counts
counts_of h = record { clock = clock_of h; frees = frees_of h; calls = h.calls }

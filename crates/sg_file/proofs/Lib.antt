mod StaysLemmas
mod ReadsLemmas
